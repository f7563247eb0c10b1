-- Each answer has its number and value.
use native.Mathlib.Omega.{arith}
use Rattle.export.proofs.read_answer.Goals as goal

pub returns-in-Ok : goal.returns-in-Ok
returns-in-Ok c = rw c.in-Ok.is (omega arith)

pub returns-in-Err : goal.returns-in-Err
returns-in-Err c = rw c.in-Err.is (omega arith)
