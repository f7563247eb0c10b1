-- The next byte, or step 4.
use Rattle.arbitration_run.specs.Sequence.{opened}
use borrow.Author.Tests.{lt-ltb, le-ltb}
use Rattle.arbitration_run.proofs.sequencer.Sequencer.opened.Goals as goal

pub returns-then-self-acks : goal.returns-then-self-acks
unfolding opened
returns-then-self-acks c = rw (lt-ltb _ _ c.if-self-acks.true) c.entering.ensures

pub returns : goal.returns
unfolding opened
returns c = rw (le-ltb _ _ c.if-self-acks.false) c.entering-2.ensures
