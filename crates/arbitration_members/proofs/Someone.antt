-- Someone still contending passes a test: the library's test of all pairs.
use Prim.Native.Nat.{ℕ}
use mathlib.Core.Path.{◌≡◌, refl, ap}
use mathlib.Core.Bool.{Bool, ◌&&◌, ◌||◌}
use mathlib.Core.List.{List, [], ◌∷◌, zip_with}
use Rattle.std.specs.List.{list_any, zip}
use Rattle.arbitration_members.specs.Members.{someone}

abbrev pub passes : (ℕ → Bool) → Bool × ℕ → Bool
passes test pair = pair.0 && test pair.1

pub someone-pairs : (test : ℕ → Bool) (contending : List Bool) (values : List ℕ)
    → list_any (passes test) (zip contending values) ≡ someone test contending values
unfolding zip_with
someone-pairs test [] values = refl
someone-pairs test (still ∷ contending) [] = refl
someone-pairs test (still ∷ contending) (value ∷ values) =
    ap (λ (rest : Bool). still && test value || rest) (someone-pairs test contending values)
