-- `dump_reader::values::judge` meets its contract.
use borrow.Author.Tests.{lt-ltb, le-ltb}
use Rattle.dump_reader.specs.Values.{judge}
use Rattle.dump_reader.proofs.values.judge.Goals as goal

pub returns-then-wave-stamp : goal.returns-then-wave-stamp
unfolding judge
returns-then-wave-stamp c = rw c.if-wave-stamp.true c.refused.ensures

pub returns-then-is_missing : goal.returns-then-is_missing
unfolding judge
returns-then-is_missing c = rw (c.if-wave-stamp.false, ← c.is_missing.ensures, c.if-is_missing.true) c.refused-then-is_missing.ensures

pub returns-then-stamp-gt-MAX_STAMP : goal.returns-then-stamp-gt-MAX_STAMP
unfolding judge
returns-then-stamp-gt-MAX_STAMP c = rw (
  c.if-wave-stamp.false,
  ← c.is_missing.ensures,
  c.if-is_missing.false,
  lt-ltb _ _ c.if-stamp-gt-MAX_STAMP.true,
) c.refused-then-stamp-gt-MAX_STAMP.ensures

pub returns-then-inside : goal.returns-then-inside
unfolding judge
returns-then-inside c = rw (
  c.if-wave-stamp.false,
  ← c.is_missing.ensures,
  c.if-is_missing.false,
  le-ltb _ _ c.if-stamp-gt-MAX_STAMP.false,
  c.if-inside.true,
) c.refused-then-inside.ensures

pub returns : goal.returns
unfolding judge
returns c = rw (
  c.if-wave-stamp.false,
  ← c.is_missing.ensures,
  c.if-is_missing.false,
  le-ltb _ _ c.if-stamp-gt-MAX_STAMP.false,
  c.if-inside.false,
  ← c.stamped.ensures,
) c.waved.ensures
