-- The first row that passes a test, and the rows before it.
use Prim.Native.Nat.{ℕ, zero, suc, ◌+◌, ◌-◌, ◌≤◌, ◌<◌}
use native.Mathlib.Omega.{arith}
use mathlib.Core.Path.{◌≡◌, refl, sym, ◌∙◌}
use mathlib.Core.Bool.{Bool, true, false}
use lib.Dec.{ltb}
use borrow.Author.Tests.{ltb-true, ltb-false}
use Rattle.frame_match.specs.Rows.{first_row}
use Rattle.frame_match.proofs.Searching.{row-found, row-passed, row-since}

pub record IsFirst (test : ℕ → Bool) (from end row : ℕ) : Type 0 where
  pub since : from ≤ row
  pub within : row < end
  pub passes : test row ≡ true
  pub before : (other : ℕ) → from ≤ other → other < row → test other ≡ false

module _ (test : ℕ → Bool) (end : ℕ) where
  -- all rows before the first fail the test, and it passes it
  search-from : (count from : ℕ) → end - from ≡ count → first_row test from end < end
      → IsFirst test from end (first_row test from end)
  search-from zero from none found = absurd (past found)
    where
      past : first_row test from end < end → ⊥
      past less = omega (arith, none, row-since test from end)
  search-from (suc count) from rest found = go (test from) refl (search-from count (from + 1) (omega arith))
    where
      less : from < end
      less = omega arith

      go : (passes : Bool) → test from ≡ passes
          → (first_row test (from + 1) end < end → IsFirst test (from + 1) end (first_row test (from + 1) end))
          → IsFirst test from end (first_row test from end)
      go true is later =
          let here : from ≡ first_row test from end = row-found test from end less is in
          rw (← here) (record {
            since = omega arith;
            within = less;
            passes = is;
            before = λ other low high. absurd (omega arith);
          })
      go false is later =
          let next : first_row test from end ≡ first_row test (from + 1) end = row-passed test from end less is in
          let first = later (rw (← next) found) in
          rw next (record {
            since = omega (arith, first.since);
            within = first.within;
            passes = first.passes;
            before = λ other low high. earlier other low high first;
          })
        where
          earlier : (other : ℕ) → from ≤ other → other < first_row test (from + 1) end
              → IsFirst test (from + 1) end (first_row test (from + 1) end) → test other ≡ false
          earlier other low high first = at (ltb from other) refl
            where
              at : (after : Bool) → ltb from other ≡ after → test other ≡ false
              at true after = first.before other (omega (arith, ltb-true from other after)) high
              at false after =
                  let same : from ≡ other = omega (arith, ltb-false from other after) in
                  rw (← same) is

  pub is-first : (from row : ℕ) → row ≡ first_row test from end → row < end → IsFirst test from end row
  is-first from row is less = rw is (search-from (end - from) from refl (rw (← is) less))

  -- where one passes, the first is no later
  found_from : (count from : ℕ) → end - from ≡ count → (row : ℕ) → from ≤ row → row < end → test row ≡ true
      → first_row test from end < end
  found_from zero from none row low high is = absurd (omega arith)
  found_from (suc count) from rest row low high is = go (test from) refl (found_from count (from + 1) (omega arith) row)
    where
      less : from < end
      less = omega arith

      go : (passes : Bool) → test from ≡ passes
          → (from + 1 ≤ row → row < end → test row ≡ true → first_row test (from + 1) end < end)
          → first_row test from end < end
      go true here later = rw (← row-found test from end less here) less
      go false here later = rw (row-passed test from end less here) (later (after (ltb from row) refl) high is)
        where
          not-both : false ≡ true → ⊥
          not-both e = let never : ◌≡◌ {A = ℕ} 0 1 = cc in omega arith

          after : (test-after : Bool) → ltb from row ≡ test-after → from + 1 ≤ row
          after true more = omega (arith, ltb-true from row more)
          after false more =
              let same : row ≡ from = omega (arith, ltb-false from row more) in
              absurd (not-both (sym here ∙ rw (← same) is))

  pub some-found : (row : ℕ) → row < end → test row ≡ true → first_row test 0 end < end
  some-found row less is = found_from end 0 (omega arith) row (omega arith) less is

  pub none_found : end ≤ first_row test 0 end → (row : ℕ) → row < end → test row ≡ false
  none_found none row less = go (test row) refl
    where
      go : (passes : Bool) → test row ≡ passes → passes ≡ false
      go false is = refl
      go true is = absurd (omega (arith, some-found row less is))
