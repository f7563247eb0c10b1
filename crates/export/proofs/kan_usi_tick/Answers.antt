-- The composition of what the calls answer.
use Rattle.export.proofs.kan_usi_tick.Goals as goal

pub returns : goal.returns
returns c = rw (c.answer.ensures, c.tick.ensures, c.unpacked.ensures)
