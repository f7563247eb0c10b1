-- The refusal's number and place, and how many rounds.
use native.Mathlib.Omega.{arith}
use Rattle.export.proofs.night_calls.night_answer.Goals as goal

pub returns : goal.returns
returns c = omega arith
