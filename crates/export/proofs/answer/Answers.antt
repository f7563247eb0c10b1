-- The module below, the refusal above.
use Rattle.export.proofs.answer.Goals as goal

pub returns : goal.returns
returns c = rw (c.refusal.ensures, c.packed.ensures.0, c.before.before.«module».ensures)
