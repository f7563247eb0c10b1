-- Rows looked for and counted, one after another.
use Prim.Native.Nat.{ℕ, zero, suc, ◌+◌, ◌-◌, ◌≤◌, ◌<◌}
use native.Mathlib.Numerals.{add-one}
use native.Mathlib.Omega.{arith}
use mathlib.Core.Path.{◌≡◌, refl, sym, ap, ◌∙◌}
use mathlib.Core.Bool.{Bool, true, false, cond}
use mathlib.Core.List.{List, [], ◌∷◌}
use lib.Dec.{ltb}
use lib.ListN.{length}
use mir.Val.{bool_byte}
use borrow.Author.Tests.{ltb-true, ltb-false, lt-ltb, le-ltb}
use Rattle.laws.specs.Search.{first, any}
use Rattle.laws.proofs.Search.{first-within, any-first}
use Rattle.frame_match.specs.Rows.{counting, between, first_row, count, load_of}
use Rattle.frame_match.specs.Book.{is_load}

pub rows-cons : (row end : ℕ) → row < end → between row end ≡ row ∷ between (row + 1) end
rows-cons row end less =
    let one : end - row ≡ suc (end - (row + 1)) = omega arith in
    rw (one, add-one)

pub rows_none : (row end : ℕ) → end ≤ row → between row end ≡ []
rows_none row end past = let none : end - row ≡ 0 = omega arith in rw none

counting-length : (from rows : ℕ) → length (counting from rows) ≡ rows
counting-length from zero = refl
counting-length from (suc rows) = ap suc (counting-length (suc from) rows)

module _ (test : ℕ → Bool) (row end : ℕ) where
  module _ (less : row < end) where
    here : first_row test row end ≡ row + cond (test row) 0 (suc (first test (between (row + 1) end)))
    here = rw (rows-cons row end less)

    pub row-found : test row ≡ true → row ≡ first_row test row end
    row-found passes = sym (rw passes at here ∙ omega arith)

    pub row-passed : test row ≡ false → first_row test row end ≡ first_row test (row + 1) end
    row-passed fails = rw fails at here ∙ omega arith

    -- one row more is counted
    pub counted-more : (found : Bool) → found ≡ test row → (whole so_far : ℕ)
        → whole ≡ so_far + count test (between row end)
        → whole ≡ so_far + bool_byte found + count test (between (row + 1) end)
    counted-more found is whole so_far counted =
        counted
        ∙ ap (λ (n : ℕ). so_far + n) (ap (count test) (rows-cons row end less) ∙ rw (← is))
        ∙ go found
      where
        go : (found : Bool)
            → so_far + cond found (suc (count test (between (row + 1) end))) (count test (between (row + 1) end))
            ≡ so_far + bool_byte found + count test (between (row + 1) end)
        go true = omega arith
        go false = omega arith

  pub row-none : end ≤ row → row ≡ first_row test row end
  row-none past = sym (rw (rows_none row end past) (omega arith))

  pub counted-all : end ≤ row → (whole so_far : ℕ) → whole ≡ so_far + count test (between row end) → so_far ≡ whole
  counted-all past whole so_far counted = sym (counted ∙ rw (rows_none row end past) (omega arith))

  -- there is one exactly where the first stands before the end
  pub row_any : row ≤ end → ltb (first_row test row end) end ≡ any test (between row end)
  row_any within = go (ltb (first test (between row end)) (end - row)) refl ∙ sym (any-first test (between row end) ∙ rw (counting-length row (end - row)))
    where
      go : (before : Bool) → ltb (first test (between row end)) (end - row) ≡ before → ltb (first_row test row end) end ≡ before
      go true is =
          let less : first_row test row end < end = omega (arith, ltb-true (first test (between row end)) (end - row) is) in
          lt-ltb (first_row test row end) end less
      go false is =
          let most : end ≤ first_row test row end = omega (arith, ltb-false (first test (between row end)) (end - row) is) in
          le-ltb (first_row test row end) end most

  pub row-since : row ≤ first_row test row end
  row-since = omega arith

  pub row_within : row ≤ end → first_row test row end ≤ end
  row_within within =
      let most : first test (between row end) ≤ length (between row end) = first-within test (between row end) in
      let long : length (between row end) ≡ end - row = counting-length row (end - row) in
      omega arith

-- ---- the last load up to a row
pub load_here : (book : List ℕ) (row below : ℕ) → suc below ≡ row → is_load book row ≡ true → row ≡ load_of book row
load_here book row below next is = rw (← next) (sym (rw (rw (← next) at is)))

pub load-passed : (book : List ℕ) (row below : ℕ) → suc below ≡ row → is_load book row ≡ false
    → load_of book row ≡ load_of book below
load-passed book row below next is = rw (← next) (rw (rw (← next) at is))
