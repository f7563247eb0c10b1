-- The composition of what the calls answer.
use Rattle.export.proofs.kan_usi_sample.Goals as goal

pub returns : goal.returns
returns c = rw (c.answer.ensures, c.sample.ensures, c.unpacked.ensures)
