-- `trace_text::reading::follows_byte` meets its contract.
use Rattle.trace_text.specs.Words.{follows_byte}
use Rattle.trace_text.proofs.reading.follows_byte.Goals as goal

pub returns : goal.returns
unfolding follows_byte
returns c = rw (
  c.is_word.ensures,
  c.is_word-2.ensures,
  c.is_word-3.ensures,
  c.is_word-4.ensures,
)
