-- The composition of what the calls answer.
use Rattle.usi.proofs.Clearing.{written_small}
use Rattle.export.proofs.kan_usi_write.Goals as goal

pub write_answer-requires : goal.write_answer-requires
write_answer-requires c = rw c.write.ensures (written_small _ _ _)

pub returns : goal.returns
returns c = rw (c.write_answer.ensures, c.write.ensures, c.unpacked.ensures)
