-- `trace_text::reading::parse` meets its contract.
use Rattle.trace_text.specs.Words.{said_in}
use Rattle.trace_text.proofs.reading.parse.Goals as goal

pub returns-then-is_word : goal.returns-then-is_word
unfolding said_in
returns-then-is_word c = rw (
  ← c.first_word-word.ensures,
  ← c.is_word.ensures,
  c.if-is_word.true,
  ← c.after_word-rest.ensures,
) c.alone.ensures

pub returns-then-is_word-2 : goal.returns-then-is_word-2
unfolding said_in
returns-then-is_word-2 c = rw (
  ← c.first_word-word.ensures,
  ← c.is_word.ensures,
  c.if-is_word.false,
  ← c.is_word-2.ensures,
  c.if-is_word-2.true,
  ← c.after_word-rest.ensures,
) c.alone-then-is_word-2.ensures

pub returns-then-is_word-3 : goal.returns-then-is_word-3
unfolding said_in
returns-then-is_word-3 c = rw (
  ← c.first_word-word.ensures,
  ← c.is_word.ensures,
  c.if-is_word.false,
  ← c.is_word-2.ensures,
  c.if-is_word-2.false,
  ← c.is_word-3.ensures,
  c.if-is_word-3.true,
  ← c.after_word-rest.ensures,
) c.pair.ensures

pub returns-then-is_word-4 : goal.returns-then-is_word-4
unfolding said_in
returns-then-is_word-4 c = rw (
  ← c.first_word-word.ensures,
  ← c.is_word.ensures,
  c.if-is_word.false,
  ← c.is_word-2.ensures,
  c.if-is_word-2.false,
  ← c.is_word-3.ensures,
  c.if-is_word-3.false,
  ← c.is_word-4.ensures,
  c.if-is_word-4.true,
  ← c.after_word-rest.ensures,
) c.pair-then-is_word-4.ensures

pub returns : goal.returns
unfolding said_in
returns c = rw (
  ← c.first_word-word.ensures,
  ← c.is_word.ensures,
  c.if-is_word.false,
  ← c.is_word-2.ensures,
  c.if-is_word-2.false,
  ← c.is_word-3.ensures,
  c.if-is_word-3.false,
  ← c.is_word-4.ensures,
  c.if-is_word-4.false,
) c.transfer.ensures
