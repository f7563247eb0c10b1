-- `dump_reader::timescale::unit_of` meets its contract.
use mathlib.Core.Path.{refl}
use native.Mathlib.Omega.{arith}
use Rattle.dump_reader.specs.Timescale.{unit_of}
use Rattle.dump_reader.proofs.timescale.unit_of.Goals as goal

pub returns-then-is_same : goal.returns-then-is_same
unfolding unit_of
returns-then-is_same c = rw (← c.is_same.ensures, c.if-is_same.true) record { value = refl; upper_bound = omega arith }

pub returns-then-is_same-2 : goal.returns-then-is_same-2
unfolding unit_of
returns-then-is_same-2 c = rw (← c.is_same.ensures, c.if-is_same.false, ← c.is_same-2.ensures, c.if-is_same-2.true) record {
  value = refl;
  upper_bound = omega arith;
}

pub returns-then-is_same-3 : goal.returns-then-is_same-3
unfolding unit_of
returns-then-is_same-3 c = rw (
  ← c.is_same.ensures,
  c.if-is_same.false,
  ← c.is_same-2.ensures,
  c.if-is_same-2.false,
  ← c.is_same-3.ensures,
  c.if-is_same-3.true,
) record { value = refl; upper_bound = omega arith }

pub returns-then-is_same-4 : goal.returns-then-is_same-4
unfolding unit_of
returns-then-is_same-4 c = rw (
  ← c.is_same.ensures,
  c.if-is_same.false,
  ← c.is_same-2.ensures,
  c.if-is_same-2.false,
  ← c.is_same-3.ensures,
  c.if-is_same-3.false,
  ← c.is_same-4.ensures,
  c.if-is_same-4.true,
) record { value = refl; upper_bound = omega arith }

pub returns-then-is_same-5 : goal.returns-then-is_same-5
unfolding unit_of
returns-then-is_same-5 c = rw (
  ← c.is_same.ensures,
  c.if-is_same.false,
  ← c.is_same-2.ensures,
  c.if-is_same-2.false,
  ← c.is_same-3.ensures,
  c.if-is_same-3.false,
  ← c.is_same-4.ensures,
  c.if-is_same-4.false,
  ← c.is_same-5.ensures,
  c.if-is_same-5.true,
) record { value = refl; upper_bound = omega arith }

pub returns-then-is_same-6 : goal.returns-then-is_same-6
unfolding unit_of
returns-then-is_same-6 c = rw (
  ← c.is_same.ensures,
  c.if-is_same.false,
  ← c.is_same-2.ensures,
  c.if-is_same-2.false,
  ← c.is_same-3.ensures,
  c.if-is_same-3.false,
  ← c.is_same-4.ensures,
  c.if-is_same-4.false,
  ← c.is_same-5.ensures,
  c.if-is_same-5.false,
  ← c.is_same-6.ensures,
  c.if-is_same-6.true,
) record { value = refl; upper_bound = omega arith }

pub returns : goal.returns
unfolding unit_of
returns c = rw (
  ← c.is_same.ensures,
  c.if-is_same.false,
  ← c.is_same-2.ensures,
  c.if-is_same-2.false,
  ← c.is_same-3.ensures,
  c.if-is_same-3.false,
  ← c.is_same-4.ensures,
  c.if-is_same-4.false,
  ← c.is_same-5.ensures,
  c.if-is_same-5.false,
  ← c.is_same-6.ensures,
  c.if-is_same-6.false,
) record { value = refl; upper_bound = omega arith }
