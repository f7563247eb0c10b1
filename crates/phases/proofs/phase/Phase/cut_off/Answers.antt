-- SCL of the first sample.
use Rattle.phases.proofs.phase.Phase.cut_off.Goals as goal

pub returns : goal.returns
returns c = rw c.scl.ensures
