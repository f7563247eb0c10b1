-- Two lists of events compared one by one.
use mathlib.Core.Path.{◌≡◌, refl, ap}
use mathlib.Core.Bool.{Bool, ◌&&◌}
use mathlib.Core.List.{List, [], ◌∷◌}
use Prim.Native.Nat.{ℕ}
use lib.Dec.{eqb}
use Rattle.std.specs.Cmp.Lexicographic.{pointwise}
use Rattle.laws.specs.Same.{same}

pub pointwise-same : (events others : List ℕ) → pointwise eqb events others ≡ same events others
unfolding same
pointwise-same [] [] = refl
pointwise-same [] (other ∷ others) = refl
pointwise-same (event ∷ events) [] = refl
pointwise-same (event ∷ events) (other ∷ others) = ap (λ (rest : Bool). eqb event other && rest) (pointwise-same events others)
