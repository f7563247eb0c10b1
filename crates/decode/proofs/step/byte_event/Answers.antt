-- `byte_event` goes by the ninth bit.
use native.Mathlib.Omega.{arith}
use Rattle.decode.proofs.step.byte_event.Goals as goal

pub returns-then-ninth : goal.returns-then-ninth
returns-then-ninth c = rw c.if-ninth.true (omega arith)

pub returns : goal.returns
returns c = rw c.if-ninth.false (omega arith)
