-- The answer of the step.
use Rattle.usi.proofs.Usi.write.Goals as goal

pub returns : goal.returns
returns c = rw (c.answered.ensures, c.stored.ensures)
