-- The search through the stamps, which looks at the pair that ends at i: one index ahead of the search through the pairs.
use Prim.Native.Nat.{ℕ, suc, ◌+◌, ◌-◌, ◌≤◌, ◌<◌, max}
use native.Mathlib.Omega.{arith}
use mathlib.Core.Path.{◌≡◌, ap, ◌∙◌}
use mathlib.Core.Bool.{not}
use mathlib.Core.List.{List}
use lib.Dec.{ltb}
use lib.ListN.{length, get_or}
use borrow.Author.Tests.{lt-ltb, le-ltb}
use Rattle.laws.proofs.Search.{Passed, passed_start, passed-more, found_first, none_first}
use Rattle.trace.specs.Trace.{pairs, not_above, bad_stamp}
use Rattle.trace.proofs.Pairs.{pair-count, pair-at}

pub record Scanned (stamps : List ℕ) (i : ℕ) : Type 0 where
  pub some : 1 ≤ i
  pub few : i ≤ max (length stamps) 1
  pub passed : Passed not_above (pairs stamps) (i - 1)

pub scanned-start : (stamps : List ℕ) → Scanned stamps 1
scanned-start stamps = record { some = omega arith; few = omega arith; passed = passed_start not_above (pairs stamps) }

module _ (stamps : List ℕ) (i : ℕ) (scanned : Scanned stamps i) where
  module _ (less : i < length stamps) where
    before : i - 1 < length (pairs stamps)
    before = omega (arith, pair-count stamps, scanned.some)

    -- the pair that ends at i
    here : not_above (get_or (pairs stamps) (i - 1) (0, 0)) ≡ not (ltb (get_or stamps (i - 1) 0) (get_or stamps i 0))
    here =
        let next : suc (i - 1) ≡ i = omega (arith, scanned.some) in
        ap not_above (pair-at stamps (i - 1) (omega (arith, scanned.some)))
        ∙ ap (λ (k : ℕ). not (ltb (get_or stamps (i - 1) 0) (get_or stamps k 0))) next

    pub scanned-bad : get_or stamps i 0 ≤ get_or stamps (i - 1) 0 → i ≡ bad_stamp stamps
    scanned-bad not-above =
        let found : i - 1 ≡ _ =
        found_first not_above (pairs stamps) (i - 1) (0, 0) scanned.passed before
        (here ∙ ap not (le-ltb (get_or stamps (i - 1) 0) (get_or stamps i 0) not-above)) in
        omega (arith, scanned.some)

    pub scanned-more : get_or stamps (i - 1) 0 < get_or stamps i 0 → Scanned stamps (i + 1)
    scanned-more above =
        let back : i - 1 + 1 ≡ i + 1 - 1 = omega (arith, scanned.some) in
        record {
          some = omega arith;
          few = omega arith;
          passed =
              rw back at (passed-more not_above (pairs stamps) (i - 1) (0, 0) scanned.passed before
              (here ∙ ap not (lt-ltb (get_or stamps (i - 1) 0) (get_or stamps i 0) above)));
        }

  pub scanned-end : length stamps ≤ i → i ≡ bad_stamp stamps
  scanned-end end =
      let all : i - 1 ≡ _ =
      none_first not_above (pairs stamps) (i - 1) scanned.passed (omega (arith, pair-count stamps)) in
      omega (arith, scanned.some)
