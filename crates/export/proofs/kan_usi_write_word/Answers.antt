-- The composition of what the calls answer.
use Rattle.usi.proofs.Clearing.{word_small}
use Rattle.export.proofs.kan_usi_write_word.Goals as goal

pub write_answer-requires : goal.write_answer-requires
write_answer-requires c = rw c.write_word.ensures (word_small _ _ _)

pub returns : goal.returns
returns c = rw (c.write_answer.ensures, c.write_word.ensures, c.unpacked.ensures)
