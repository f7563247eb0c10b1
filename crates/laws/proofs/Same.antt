-- The test of two lists says whether they are equal.
use Prim.Native.Nat.{ℕ, suc}
use mathlib.Core.Path.{◌≡◌, refl, ap, ap₂}
use mathlib.Core.Bool.{Bool, true, false, ◌&&◌, false≢true}
use mathlib.Core.List.{List, [], ◌∷◌}
use lib.Dec.{eqb}
use lib.ListN.{length}
use borrow.Author.Tests.{eq-eqb, eqb-true}
use Rattle.laws.specs.Same.{same}
use Rattle.laws.proofs.Bools.{both}

pub same_step : (a b : ℕ) (list other : List ℕ) → same (a ∷ list) (b ∷ other) ≡ eqb a b && same list other
unfolding same
same_step a b list other = refl

-- lists of different lengths differ
pub unequal-lengths : (list other : List ℕ) → (length list ≡ length other → ⊥) → false ≡ same list other
unfolding same
unequal-lengths [] [] unequal = absurd (unequal refl)
unequal-lengths [] (b ∷ other) unequal = refl
unequal-lengths (a ∷ list) [] unequal = refl
unequal-lengths (a ∷ list) (b ∷ other) unequal = go (eqb a b) (unequal-lengths list other (λ e. unequal (ap suc e)))
  where
    go : (equal : Bool) → false ≡ same list other → false ≡ equal && same list other
    go true rest = rest
    go false rest = refl

-- what is the same is equal, and a list is the same as itself
pub same_self : (list : List ℕ) → same list list ≡ true
unfolding same
same_self [] = refl
same_self (a ∷ list) = rw (eq-eqb a a refl) (same_self list)

pub same-equal : (list other : List ℕ) → same list other ≡ true → list ≡ other
unfolding same
same-equal [] [] holds = refl
same-equal [] (b ∷ other) holds = absurd (false≢true holds)
same-equal (a ∷ list) [] holds = absurd (false≢true holds)
same-equal (a ∷ list) (b ∷ other) holds =
    let two = both (eqb a b) (same list other) holds in
    ap₂ ◌∷◌ (eqb-true a b two.0) (same-equal list other two.1)
