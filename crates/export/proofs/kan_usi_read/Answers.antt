-- The composition of what the calls answer.
use Rattle.export.proofs.kan_usi_read.Goals as goal

pub returns : goal.returns
returns c = rw (c.read_answer.ensures, c.read.ensures, c.unpacked.ensures)
