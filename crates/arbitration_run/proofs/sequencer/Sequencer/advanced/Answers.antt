-- Within a part, and past its end.
use Rattle.arbitration_run.specs.Sequence.{advanced}
use borrow.Author.Tests.{lt-ltb, le-ltb}
use Rattle.arbitration_run.proofs.sequencer.Sequencer.advanced.Goals as goal

pub returns-then-self-last : goal.returns-then-self-last
unfolding advanced
returns-then-self-last c = rw (← c.last.ensures, lt-ltb _ _ c.if-self-last.true)

pub returns : goal.returns
unfolding advanced
returns c = rw (← c.last.ensures, le-ltb _ _ c.if-self-last.false) c.parted.ensures
