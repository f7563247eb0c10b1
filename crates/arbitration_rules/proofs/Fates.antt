-- How a master stands at the end is its fate: in, or out at the position where its message first differs.
use Prim.Native.Nat.{ℕ, suc}
use mathlib.Core.Path.{◌≡◌, refl}
use mathlib.Core.Bool.{Bool, cond, true, false}
use mathlib.Core.List.{List, [], ◌∷◌}
use mathlib.Core.Option.{some}
use lib.Dec.{eqb}
use Rattle.arbitration_rules.specs.Outcome.{byte_of, position_in, loss_from, fate}
use Rattle.arbitration_rules.specs.Run.{fate_of}
use Rattle.arbitration_rules.proofs.Pause.{standing_as}
use Rattle.arbitration_rules.proofs.Ends.{final_usi}
use Rattle.arbitration_rules.proofs.Against.{against, out_at}

pub final-fate : (index : ℕ) (carried message : List ℕ)
    → fate_of (standing_as final_usi (against index carried message)) ≡ fate (loss_from index carried message)
final-fate index [] message = refl
final-fate index (sent ∷ carried) [] = refl
final-fate index (sent ∷ carried) (own ∷ message) =
    go (final-fate (suc index) carried message) (eqb (byte_of own) (byte_of sent))
  where
    go : fate_of (standing_as final_usi (against (suc index) carried message))
        ≡ fate (loss_from (suc index) carried message)
        → (same : Bool)
        → fate_of (standing_as final_usi (cond same (against (suc index) carried message) (out_at index sent own)))
        ≡ fate (cond same (loss_from (suc index) carried message)
        (some (position_in (byte_of sent) (byte_of own) index)))
    go rest true = rest
    go rest false = refl
