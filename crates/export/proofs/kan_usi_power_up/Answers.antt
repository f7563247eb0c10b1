-- The composition of what the calls answer.
use Rattle.export.proofs.kan_usi_power_up.Goals as goal

pub returns : goal.returns
returns c = rw (c.packed.ensures.0, c.power_up.ensures)
