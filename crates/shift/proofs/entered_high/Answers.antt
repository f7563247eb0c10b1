-- `shift::entered_high` meets its contract.
use native.Mathlib.Omega.{arith}
use Rattle.shift.proofs.entered_high.Goals as goal

pub returns-then-wide : goal.returns-then-wide
returns-then-wide c = rw c.if-wide.true (omega (arith, c.weighted.ensures))

pub returns : goal.returns
returns c = rw c.if-wide.false (omega (arith, c.weighted-2.ensures))
