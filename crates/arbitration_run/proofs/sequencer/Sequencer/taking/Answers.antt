-- Its members have taken their bytes.
use Rattle.arbitration_run.specs.Sequence.{taking}
use Rattle.arbitration_run.proofs.sequencer.Sequencer.taking.Goals as goal

pub returns : goal.returns
unfolding taking
returns c = rw c.loaded-loaded.ensures
