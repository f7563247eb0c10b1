-- The composition of what the calls answer.
use Rattle.export.proofs.kan_usi_read_word.Goals as goal

pub returns : goal.returns
returns c = rw (c.read_answer.ensures, c.read_word.ensures, c.unpacked.ensures)
