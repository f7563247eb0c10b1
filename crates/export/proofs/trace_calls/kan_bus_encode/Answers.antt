-- The reply packed; the buffers are what encode leaves.
use Rattle.export.proofs.Small.{encoded-small}
use Rattle.export.proofs.trace_calls.kan_bus_encode.Goals as goal

pub encode_answer-requires : goal.encode_answer-requires
encode_answer-requires c = rw c.encode.ensures.answer (encoded-small _ _ _ _ _)

pub returns : goal.returns
returns c = let drawn = c.encode.ensures in record {
  answer = rw (c.encode_answer.ensures, drawn.answer);
  stamp_buffer = rw (← drawn.answer) drawn.stamp_buffer;
  level_buffer = rw (← drawn.answer) drawn.level_buffer;
}
