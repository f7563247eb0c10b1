-- The reply packed; the buffer is what decode_in leaves.
use Rattle.export.proofs.Small.{decoded-in-small}
use Rattle.export.proofs.trace_calls.kan_bus_decode_standard.Goals as goal

pub decode_answer-requires : goal.decode_answer-requires
decode_answer-requires c = rw c.decode_in.ensures.answer (decoded-in-small _ _ _ _)

pub returns : goal.returns
returns c = record {
  answer = rw (c.decode_answer.ensures, c.decode_in.ensures.answer);
  buffer = rw (← c.decode_in.ensures.answer) c.decode_in.ensures.buffer;
}
