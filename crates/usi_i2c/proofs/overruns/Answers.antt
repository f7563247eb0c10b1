-- The divider's test, and that the clock would have to wait.
use Rattle.usi_i2c.proofs.overruns.Goals as goal

pub returns : goal.returns
returns c = rw c.divider.ensures
