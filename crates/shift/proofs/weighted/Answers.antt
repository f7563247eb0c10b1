-- `shift::weighted` meets its contract.
use native.Mathlib.Omega.{arith}
use Rattle.shift.proofs.weighted.Goals as goal

pub returns-then-bit : goal.returns-then-bit
returns-then-bit c = rw c.if-bit.true (omega arith)

pub returns-else-bit : goal.returns-else-bit
returns-else-bit c = rw c.if-bit.false (omega arith)
