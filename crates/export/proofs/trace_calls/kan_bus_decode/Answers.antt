-- The reply packed; the buffer is what decode leaves.
use Rattle.export.proofs.Small.{decoded-small}
use Rattle.export.proofs.trace_calls.kan_bus_decode.Goals as goal

pub decode_answer-requires : goal.decode_answer-requires
decode_answer-requires c = rw c.decode.ensures.answer (decoded-small _ _ _)

pub returns : goal.returns
returns c = record {
  answer = rw (c.decode_answer.ensures, c.decode.ensures.answer);
  buffer = rw (← c.decode.ensures.answer) c.decode.ensures.buffer;
}
