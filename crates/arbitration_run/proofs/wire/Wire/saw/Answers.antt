-- A sample is of the level shown before it.
-- A sample, or not.
use Rattle.arbitration_run.proofs.wire.Wire.saw.Goals as goal

pub returns-in-Sample : goal.returns-in-Sample
returns-in-Sample c = rw (c.in-Sample.is, c.shown-level.ensures)
