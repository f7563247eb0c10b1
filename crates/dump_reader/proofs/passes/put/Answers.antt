-- `dump_reader::passes::put` meets its contract.
use mathlib.Core.Path.{refl}
use native.Mathlib.Omega.{arith}
use borrow.Author.Tests.{eq-eqb, ne_eqb}
use Rattle.dump_reader.specs.Reading.{completed}
use Rattle.dump_reader.proofs.passes.put.Goals as goal

pub returns-then-wave-shown : goal.returns-then-wave-shown
unfolding completed
returns-then-wave-shown c = rw (eq-eqb _ _ c.if-wave-shown.true) record {
  next = omega arith;
  stamped = refl;
  stored = refl;
}

pub bounds-stamps-count : goal.bounds-stamps-count
unfolding completed
bounds-stamps-count c = omega (arith, rw (ne_eqb _ _ c.if-wave-shown.false) at c.requires.shown_in_bounds)

pub bounds-levels-count : goal.bounds-levels-count
unfolding completed
bounds-levels-count c = omega (arith, rw (ne_eqb _ _ c.if-wave-shown.false) at c.requires.shown_in_bounds_2)

pub returns : goal.returns
unfolding completed
returns c = rw (ne_eqb _ _ c.if-wave-shown.false) record { next = refl; stamped = refl; stored = refl }
