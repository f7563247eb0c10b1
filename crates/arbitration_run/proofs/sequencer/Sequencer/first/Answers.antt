-- Nothing has happened yet.
use Rattle.arbitration_run.specs.Sequence.{first}
use Rattle.arbitration_run.proofs.sequencer.Sequencer.first.Goals as goal

pub returns : goal.returns
unfolding first
returns c = rw c.entered.ensures
