-- `dump_reader::passes::counted` meets its contract.
use native.Mathlib.Omega.{arith}
use borrow.Author.Tests.{eq-eqb, ne_eqb}
use Rattle.dump_reader.specs.Reading.{completed}
use Rattle.dump_reader.proofs.passes.counted.Goals as goal

pub returns-then-wave-shown : goal.returns-then-wave-shown
unfolding completed
returns-then-wave-shown c = rw (eq-eqb _ _ c.if-wave-shown.true) (omega arith)

pub returns : goal.returns
unfolding completed
returns c = rw (ne_eqb _ _ c.if-wave-shown.false)
