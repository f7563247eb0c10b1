-- `dump_reader::definitions::declare` meets its contract.
use borrow.Author.Tests.{eq-eqb, ne_eqb}
use Rattle.dump_reader.specs.Definitions.{declare}
use Rattle.dump_reader.proofs.definitions.declare.Goals as goal

pub returns-then-not-is_identifier : goal.returns-then-not-is_identifier
unfolding declare
returns-then-not-is_identifier c = rw (
  ← c.bytes_of-bytes.ensures,
  ← c.is_identifier.ensures,
  c.if-not-is_identifier.true,
) c.refused.ensures

pub returns-then-reader-eq0 : goal.returns-then-reader-eq0
unfolding declare
returns-then-reader-eq0 c = rw (
  ← c.bytes_of-bytes.ensures,
  ← c.is_identifier.ensures,
  c.if-not-is_identifier.false,
  eq-eqb _ _ c.if-reader-eq0.true,
) c.moved.ensures

pub returns-then-is_same : goal.returns-then-is_same
unfolding declare
returns-then-is_same c = rw (
  ← c.bytes_of-bytes.ensures,
  ← c.is_identifier.ensures,
  c.if-not-is_identifier.false,
  ne_eqb _ _ c.if-reader-eq0.false,
  ← c.bytes_of.ensures,
  ← c.is_same.ensures,
  c.if-is_same.true,
) c.refused-then-is_same.ensures

pub returns : goal.returns
unfolding declare
returns c = rw (
  ← c.bytes_of-bytes.ensures,
  ← c.is_identifier.ensures,
  c.if-not-is_identifier.false,
  ne_eqb _ _ c.if-reader-eq0.false,
  ← c.bytes_of.ensures,
  ← c.is_same.ensures,
  c.if-is_same.false,
) c.moved-2.ensures
