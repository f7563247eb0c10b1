-- `shift::entered_low` meets its contract.
use native.Mathlib.Omega.{arith}
use borrow.Author.Rules.{rules}
use Rattle.laws.proofs.Bools.{bool-byte}
use Rattle.shift.proofs.entered_low.Goals as goal

pub overflow_add-result : goal.overflow_add-result
overflow_add-result c = search (rules, bool-byte c.args.entering, c.weighted.ensures)

pub returns-then-wide : goal.returns-then-wide
returns-then-wide c = rw c.if-wide.true (omega (arith, c.weighted.ensures))

pub overflow_add-result-2 : goal.overflow_add-result-2
overflow_add-result-2 c = search (rules, bool-byte c.args.entering, c.weighted-2.ensures)

pub returns : goal.returns
returns c = rw c.if-wide.false (omega (arith, c.weighted-2.ensures))
