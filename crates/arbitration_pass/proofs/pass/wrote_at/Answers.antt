-- Within the most masters, and past them.
use mathlib.Core.Path.{ap, ◌∙◌}
use borrow.Author.Tests.{lt-ltb, le-ltb}
use Rattle.arbitration_pass.specs.Pass.{wrote_at, ticked}
use Rattle.arbitration_pass.proofs.pass.wrote_at.Goals as goal

pub returns-then-i-lt-MAX_MASTERS : goal.returns-then-i-lt-MAX_MASTERS
unfolding wrote_at
returns-then-i-lt-MAX_MASTERS c = rw (lt-ltb _ _ c.if-i-lt-MAX_MASTERS.true)
    (c.ticked.ensures ∙ ap (ticked c.args.pass.ticks) c.wrote_as-wrote.ensures)

pub returns : goal.returns
unfolding wrote_at
returns c = rw (le-ltb _ _ c.if-i-lt-MAX_MASTERS.false)
