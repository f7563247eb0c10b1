-- The lowest bit is the rest of a division by 2.
use Prim.Native.Nat.{ℕ, ◌%◌}
use mathlib.Core.Path.{sym, ap}
use native.Mathlib.Nat.{div-one}
use lib.Dec.{eqb}
use Rattle.arbitration_checks.proofs.messages.odd.Goals as goal

pub returns : goal.returns
returns c = ap (λ (k : ℕ). eqb (k % 2) 1) (sym (div-one c.args.sent))
