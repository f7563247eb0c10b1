-- The refusal's number and place, and k.
use native.Mathlib.Omega.{arith}
use Rattle.export.proofs.arbitration_calls.reply.Goals as goal

pub returns : goal.returns
returns c = omega arith
