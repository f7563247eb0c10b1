-- The first of 40 and 41 that applies.
use native.Mathlib.Omega.{arith}
use Rattle.catalogue.specs.Catalogue.{judged}
use Rattle.std.proofs.Common.{ap, not}
use Rattle.catalogue.proofs.places.judge.Goals as goal

pub returns-then-not-rises : goal.returns-then-not-rises
unfolding judged
returns-then-not-rises c = (omega arith, rw (← c.rises.ensures, (ap not c.if-not-rises.true)))

pub returns-then-lengths-boards : goal.returns-then-lengths-boards
unfolding judged
returns-then-lengths-boards c = (
  omega arith,
  rw (← c.rises.ensures, (ap not c.if-not-rises.false)) (rw (← c.sum_to.ensures, c.if-lengths-boards.true)),
)

pub returns : goal.returns
unfolding judged
returns c = rw (← c.rises.ensures, (ap not c.if-not-rises.false))
    (rw (← c.sum_to.ensures, c.if-lengths-boards.false))
