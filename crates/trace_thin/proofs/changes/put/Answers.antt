-- A sample is stored where its level is another than the last.
use mathlib.Core.Path.{refl}
use native.Mathlib.Omega.{arith}
use borrow.Author.Tests.{eq-eqb, ne_eqb}
use Rattle.trace_thin.proofs.changes.put.Goals as goal

pub returns-then-level-last : goal.returns-then-level-last
returns-then-level-last c = rw (eq-eqb _ _ c.if-level-last.true) record {
  next = omega arith;
  stamps_stored = refl;
  levels_stored = refl;
}

pub bounds-stamps-count : goal.bounds-stamps-count
bounds-stamps-count c = omega (arith, rw (ne_eqb _ _ c.if-level-last.false) at c.requires.0)

pub bounds-levels-count : goal.bounds-levels-count
bounds-levels-count c = omega (arith, rw (ne_eqb _ _ c.if-level-last.false) at c.requires.1)

pub returns : goal.returns
returns c = rw (ne_eqb _ _ c.if-level-last.false) record { next = refl; stamps_stored = refl; levels_stored = refl }
