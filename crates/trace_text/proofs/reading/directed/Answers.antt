-- `trace_text::reading::directed` meets its contract.
use borrow.Author.Tests.{eq-eqb, ne_eqb}
use Rattle.trace_text.specs.Words.{directed_in}
use Rattle.trace_text.proofs.reading.directed.Goals as goal

pub returns-then-byte-eq1 : goal.returns-then-byte-eq1
unfolding directed_in
returns-then-byte-eq1 c = rw (
  ← c.first_word-word.ensures,
  ← c.is_word.ensures,
  c.if-is_word.true,
  eq-eqb _ _ c.if-byte-eq1.true,
)

pub returns-then-is_word : goal.returns-then-is_word
unfolding directed_in
returns-then-is_word c = rw (
  ← c.first_word-word.ensures,
  ← c.is_word.ensures,
  c.if-is_word.true,
  ne_eqb _ _ c.if-byte-eq1.false,
  ← c.after_word-rest.ensures,
) c.acknowledged.ensures

pub returns-then-byte-eq0 : goal.returns-then-byte-eq0
unfolding directed_in
returns-then-byte-eq0 c = rw (
  ← c.first_word-word.ensures,
  ← c.is_word.ensures,
  c.if-is_word.false,
  ← c.is_word-2.ensures,
  c.if-is_word-2.true,
  eq-eqb _ _ c.if-byte-eq0.true,
)

pub returns-then-is_word-2 : goal.returns-then-is_word-2
unfolding directed_in
returns-then-is_word-2 c = rw (
  ← c.first_word-word.ensures,
  ← c.is_word.ensures,
  c.if-is_word.false,
  ← c.is_word-2.ensures,
  c.if-is_word-2.true,
  ne_eqb _ _ c.if-byte-eq0.false,
  ← c.after_word-rest.ensures,
) c.acknowledged-then-is_word-2.ensures

pub returns : goal.returns
unfolding directed_in
returns c = rw (
  ← c.first_word-word.ensures,
  ← c.is_word.ensures,
  c.if-is_word.false,
  ← c.is_word-2.ensures,
  c.if-is_word-2.false,
) c.acknowledged-2.ensures
