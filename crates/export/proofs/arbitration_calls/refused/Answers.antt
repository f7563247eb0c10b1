-- The refusal's number and place.
use native.Mathlib.Omega.{arith}
use Rattle.export.proofs.arbitration_calls.refused.Goals as goal

pub returns : goal.returns
unfolding Rattle.arbitration_rules.specs.Reply.refused
returns c = omega arith
