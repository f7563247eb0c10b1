-- Places that a search answers, as the definitions' indices.
use Rattle.std.proofs.Common.{◌≡◌, ℕ, ◌+◌, suc, Bool, cond, true, false, List, refl, arith, length, nat_lt, Option, Some, None}
use Rattle.std.specs.List.{position, position_or_len}
use Rattle.std.proofs.lemmas.List.Recursion.{is_position_or_len}
use Rattle.laws.specs.Search.{first}
use Rattle.trace.specs.Trace.{place_in}

-- std's position is the first index, where there is one
first-position : (test : ℕ → Bool) (list : List ℕ) → first test list ≡ position_or_len test list
first-position test =
    is_position_or_len (first test) test refl (λ x xs. step (test x) (first test xs))
  where
    step : (b : Bool) (n : ℕ) → cond b 0 (suc n) ≡ cond b 0 (1 + n)
    step true n = refl
    step false n = omega arith

pub position-place : (test : ℕ → Bool) (list : List ℕ) → position test list ≡ place_in list (first test list)
position-place test list = rw (first-position test list) refl

-- what such an answer says of the index
pub place-some : (list : List ℕ) (place found : ℕ) → place_in list place ≡ Some found
    → (nat_lt place (length list) ≡ true) × (place ≡ found)
place-some list place found is = go (nat_lt place (length list)) is
  where
    go : (within : Bool) → cond within (Some place) None ≡ Some found → (within ≡ true) × (place ≡ found)
    go true is = (refl, cc)
    go false is = let never : ◌≡◌ {A = ℕ} 0 1 = cc in absurd (omega arith)

pub place-none : (list : List ℕ) (place : ℕ) → place_in list place ≡ None → nat_lt place (length list) ≡ false
place-none list place is = go (nat_lt place (length list)) is
  where
    go : (within : Bool) → cond within (Some place) None ≡ None → within ≡ false
    go true is = let never : ◌≡◌ {A = ℕ} 0 1 = cc in absurd (omega arith)
    go false is = refl

-- and the index what the answer is
pub some-place : (list : List ℕ) (place found : ℕ) → found ≡ place → nat_lt found (length list) ≡ true
    → Some found ≡ place_in list place
some-place list place found is within = rw (← is, within) refl

pub no_place : (list : List ℕ) (place found : ℕ) → found ≡ place → nat_lt found (length list) ≡ false
    → None ≡ place_in list place
no_place list place found is past = rw (← is, past) refl
