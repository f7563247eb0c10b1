-- The answer of the step.
use Rattle.usi.proofs.Usi.write_word.Goals as goal

pub returns : goal.returns
returns c = rw (c.answered.ensures, c.stored_word.ensures)
