-- SCL stays, the phase is cut off, or it is measured.
use borrow.Author.Tests.{not-true, not-false}
use Rattle.phases.specs.Phases.{ends_short}
use Rattle.phases.proofs.phase.Phase.ends_short.Goals as goal

pub returns-then-scl-self : goal.returns-then-scl-self
unfolding ends_short
returns-then-scl-self c = rw (← c.scl.ensures, c.if-scl-self.true)

pub returns-then-not-self : goal.returns-then-not-self
unfolding ends_short
returns-then-not-self c =
    let whole = c.args.self.whole in
    rw (← c.scl.ensures, c.if-scl-self.false, not-true whole c.if-not-self.true)

pub returns-then-self : goal.returns-then-self
unfolding ends_short
returns-then-self c =
    let whole = c.args.self.whole in
    rw (← c.scl.ensures, c.if-scl-self.false, not-false whole c.if-not-self.false, c.if-self.true)

pub returns : goal.returns
unfolding ends_short
returns c =
    let whole = c.args.self.whole in
    rw (← c.scl.ensures, c.if-scl-self.false, not-false whole c.if-not-self.false, c.if-self.false)
