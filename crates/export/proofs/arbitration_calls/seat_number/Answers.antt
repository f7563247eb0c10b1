-- The flags from bit 1 on, the position from bit 5 on, and 1 more where it contends.
use native.Mathlib.Omega.{arith}
use Rattle.export.proofs.arbitration_calls.seat_number.Goals as goal

pub returns-then-seat : goal.returns-then-seat
returns-then-seat c = rw c.if-seat.true (omega arith)

pub returns : goal.returns
returns c = rw c.if-seat.false (omega arith)
