-- `trace_text::reading::acknowledged` meets its contract.
use Rattle.trace_text.specs.Words.{acknowledged_in}
use Rattle.trace_text.proofs.reading.acknowledged.Goals as goal

pub returns-then-is_word : goal.returns-then-is_word
unfolding acknowledged_in
returns-then-is_word c = rw (
  ← c.first_word-word.ensures,
  ← c.is_word.ensures,
  c.if-is_word.true,
  ← c.after_word-rest.ensures,
) c.alone.ensures

pub returns-then-is_word-2 : goal.returns-then-is_word-2
unfolding acknowledged_in
returns-then-is_word-2 c = rw (
  ← c.first_word-word.ensures,
  ← c.is_word.ensures,
  c.if-is_word.false,
  ← c.is_word-2.ensures,
  c.if-is_word-2.true,
  ← c.after_word-rest.ensures,
) c.alone-then-is_word-2.ensures

pub returns : goal.returns
unfolding acknowledged_in
returns c = rw (
  ← c.first_word-word.ensures,
  ← c.is_word.ensures,
  c.if-is_word.false,
  ← c.is_word-2.ensures,
  c.if-is_word-2.false,
)
