-- `dump_reader::values::change` meets its contract.
use borrow.Author.Tests.{ne_eqb}
use Rattle.dump_reader.specs.Values.{change}
use Rattle.dump_reader.proofs.values.change.Goals as goal

pub returns-in-35 : goal.returns-in-35
unfolding change
returns-in-35 c = rw (
  ← c.first_byte-first.ensures,
  c.in-35.is,
  ← c.tail.ensures,
  ← c.decimal.ensures,
) c.read_stamp.ensures

pub returns-in-48 : goal.returns-in-48
unfolding change
returns-in-48 c = rw (← c.first_byte-first.ensures, c.in-48.is, ← c.tail-in-48.ensures) c.assign.ensures

pub returns-in-49 : goal.returns-in-49
unfolding change
returns-in-49 c = rw (← c.first_byte-first.ensures, c.in-49.is, ← c.tail-in-49.ensures) c.assign-in-49.ensures

pub returns-in-120 : goal.returns-in-120
unfolding change
returns-in-120 c = rw (← c.first_byte-first.ensures, c.in-120.is, ← c.unknown.ensures) c.moved.ensures

pub returns-in-88 : goal.returns-in-88
unfolding change
returns-in-88 c = rw (← c.first_byte-first.ensures, c.in-88.is, ← c.unknown-in-88.ensures) c.moved-in-88.ensures

pub returns-in-122 : goal.returns-in-122
unfolding change
returns-in-122 c = rw (← c.first_byte-first.ensures, c.in-122.is, ← c.unknown-in-122.ensures) c.moved-in-122.ensures

pub returns-in-90 : goal.returns-in-90
unfolding change
returns-in-90 c = rw (← c.first_byte-first.ensures, c.in-90.is, ← c.unknown-in-90.ensures) c.moved-in-90.ensures

pub returns-in_default : goal.returns-in_default
unfolding change
returns-in_default c = rw (
  ← c.first_byte-first.ensures,
  ne_eqb _ _ c.in_default.in_default-own.rest.0.0.0.0.0.0.1,
  ne_eqb _ _ c.in_default.in_default-own.rest.0.0.0.0.0.1,
  ne_eqb _ _ c.in_default.in_default-own.rest.0.0.0.0.1,
  ne_eqb _ _ c.in_default.in_default-own.rest.0.0.0.1,
  ne_eqb _ _ c.in_default.in_default-own.rest.0.0.1,
  ne_eqb _ _ c.in_default.in_default-own.rest.0.1,
  ne_eqb _ _ c.in_default.in_default-own.rest.1,
  ← c.command.ensures,
) c.moved-in_default.ensures
