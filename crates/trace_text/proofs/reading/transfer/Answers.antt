-- `trace_text::reading::transfer` meets its contract.
use borrow.Author.Tests.{lt-ltb, le-ltb}
use Rattle.trace_text.specs.Words.{transfer_in}
use Rattle.trace_text.proofs.reading.transfer.Goals as goal

pub returns-then-not-follows_byte : goal.returns-then-not-follows_byte
unfolding transfer_in
returns-then-not-follows_byte c = rw (
  ← c.after_word-rest.ensures,
  ← c.first_word.ensures,
  ← c.follows_byte.ensures,
  c.if-not-follows_byte.true,
)

pub returns-then-byte-gt-LARGEST_BYTE : goal.returns-then-byte-gt-LARGEST_BYTE
unfolding transfer_in
returns-then-byte-gt-LARGEST_BYTE c = rw (
  ← c.after_word-rest.ensures,
  ← c.first_word.ensures,
  ← c.follows_byte.ensures,
  c.if-not-follows_byte.false,
  ← c.first_word-2.ensures,
  ← c.hex_byte.ensures,
  ← c.value-byte.ensures,
  lt-ltb _ _ c.if-byte-gt-LARGEST_BYTE.true,
)

pub returns : goal.returns
unfolding transfer_in
returns c = rw (
  ← c.after_word-rest.ensures,
  ← c.first_word.ensures,
  ← c.follows_byte.ensures,
  c.if-not-follows_byte.false,
  ← c.first_word-2.ensures,
  ← c.hex_byte.ensures,
  ← c.value-byte.ensures,
  le-ltb _ _ c.if-byte-gt-LARGEST_BYTE.false,
) c.directed.ensures
