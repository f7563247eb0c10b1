-- The bit enters the byte.
use Rattle.arbitration_run.proofs.wire.Wire.taken.Goals as goal

pub returns : goal.returns
returns c = rw (c.shift_in.ensures, c.sda.ensures)
