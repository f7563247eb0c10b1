-- A word that is a name: the test that computes is equality.
use mathlib.Core.Path.{◌≡◌, refl, sym, ◌∙◌}
use mathlib.Core.Bool.{Bool, true, false}
use mathlib.Core.List.{List}
use Prim.Native.Nat.{ℕ}
use Rattle.laws.specs.Same.{same}
use Rattle.laws.proofs.Same.{same_self, same-equal}

-- what answers whether two are the same answers the test
pub is-test : (answer : Bool) (word name : List ℕ)
    → (answer ≡ true → word ≡ name) × (word ≡ name → answer ≡ true) → answer ≡ same word name
is-test true word name equal = rw (equal.0 refl) (sym (same_self name))
is-test false word name equal = go (same word name) refl
  where
    go : (test : Bool) → same word name ≡ test → false ≡ same word name
    go true e = equal.1 (same-equal word name e) ∙ sym e
    go false e = sym e
