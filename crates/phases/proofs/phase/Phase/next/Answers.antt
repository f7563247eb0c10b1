-- SCL stays or changes.
use Rattle.phases.specs.Phases.{next}
use Rattle.phases.proofs.phase.Phase.next.Goals as goal

pub returns-then-scl-self : goal.returns-then-scl-self
unfolding next
returns-then-scl-self c = rw (← c.scl-scl.ensures, c.if-scl-self.true)

pub returns : goal.returns
unfolding next
returns c = rw (← c.scl-scl.ensures, c.if-scl-self.false)
