-- The composition of what the calls answer.
use Rattle.usi.proofs.Usi.bit_taken.Goals as goal

pub returns : goal.returns
returns c = rw (c.clocked.ensures, c.arbitrated.ensures, c.loses-lost.ensures)
