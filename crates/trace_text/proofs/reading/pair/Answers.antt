-- `trace_text::reading::pair` meets its contract.
use Rattle.trace_text.specs.Words.{pair_in}
use Rattle.trace_text.proofs.reading.pair.Goals as goal

pub returns-then-is_word : goal.returns-then-is_word
unfolding pair_in
returns-then-is_word c = rw (
  ← c.first_word.ensures,
  ← c.is_word.ensures,
  c.if-is_word.true,
  ← c.after_word.ensures,
) c.alone.ensures

pub returns : goal.returns
unfolding pair_in
returns c = rw (
  ← c.first_word.ensures,
  ← c.is_word.ensures,
  c.if-is_word.false,
)
