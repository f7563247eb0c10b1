-- `dump_reader::timescale::unit` meets its contract.
use Prim.Native.Nat.{◌^◌}
use native.Mathlib.Nat.{mul-le-mul}
use native.Mathlib.Omega.{arith}
use borrow.Author.Rules.{Fits-under}
use mir.Syntax.{w64}
use borrow.Author.Tests.{eq-eqb, ne_eqb}
use Rattle.dump_reader.specs.Timescale.{unit}
use Rattle.dump_reader.proofs.timescale.unit.Goals as goal

pub returns-then-unit-eq0 : goal.returns-then-unit-eq0
unfolding unit
returns-then-unit-eq0 c = rw (← c.unit_of-unit.ensures.value, eq-eqb _ _ c.if-unit-eq0.true) c.refused.ensures

pub overflow_mul-reader : goal.overflow_mul-reader
overflow_mul-reader c = Fits-under w64 _ (2 ^ 64) (omega (arith, mul-le-mul c.number_of.ensures.upper_bound c.unit_of-unit.ensures.upper_bound)) tt

pub returns : goal.returns
unfolding unit
returns c = rw (
  ← c.unit_of-unit.ensures.value,
  ne_eqb _ _ c.if-unit-eq0.false,
  ← c.number_of.ensures.value,
) c.moved.ensures
