-- Lengths taken off a size one after the other, and summed from the front.
use Prim.Native.Nat.{ℕ, suc, ◌+◌, ◌-◌, ◌<◌, ◌≤◌}
use mathlib.Core.Path.{◌≡◌, refl, sym, ap}
use mathlib.Core.Bool.{Bool, true, false}
use mathlib.Core.List.{List}
use native.Mathlib.Numerals.{add-one}
use native.Mathlib.Omega.{arith}
use lib.Dec.{eqb}
use borrow.Author.Tests.{eqb-true, eqb-false, eq-eqb, ne_eqb}
use lib.ListN.{length, get_or, take, drop, drop_of_length-le}
use lib.Seq.{drop-cons}
use Rattle.std.specs.List.{sum}
use Rattle.std.proofs.lemmas.List.Recursion.{is_sum_by}
use Rattle.std.proofs.lemmas.List.Sums.{sum_by_more_le}
use Rattle.catalogue.specs.Catalogue.{total}

-- what is left of a size, the first i lengths being taken off it
pub record Left (lengths : List ℕ) (size left i : ℕ) : Type 0 where
  pub within : i ≤ length lengths
  pub same : size + total (drop i lengths) ≡ left + total lengths

pub left-start : (lengths : List ℕ) (size : ℕ) → Left lengths size size 0
left-start lengths size = record { within = omega arith; same = refl }

module _ (lengths : List ℕ) (size left i : ℕ) (so : Left lengths size left i) where
  module _ (less : i < length lengths) where
    next : total (drop i lengths) ≡ get_or lengths i 0 + total (drop (suc i) lengths)
    next = ap total (drop-cons lengths i 0 less)

    pub left-more : get_or lengths i 0 ≤ left → Left lengths size (left - get_or lengths i 0) (i + 1)
    left-more enough =
        record { within = omega arith; same = rw add-one (omega (arith, so.same, next, enough)) }

    pub left-short : left < get_or lengths i 0 → false ≡ eqb (total lengths) size
    left-short short = sym (ne_eqb (total lengths) size (λ e. omega (arith, so.same, next, short, e)))

  pub left-done : length lengths ≤ i → eqb left 0 ≡ eqb (total lengths) size
  left-done end = go (eqb left 0) refl
    where
      all : size ≡ left + total lengths
      all = omega (arith, so.same, ap total (drop_of_length-le lengths end))

      go : (test : Bool) → eqb left 0 ≡ test → test ≡ eqb (total lengths) size
      go true is = sym (eq-eqb (total lengths) size (omega (arith, all, eqb-true left 0 is)))
      go false is = sym (ne_eqb (total lengths) size (λ e. eqb-false left 0 is (omega (arith, all, e))))

-- a total is the library's sum
pub total-sum : (lengths : List ℕ) → total lengths ≡ sum lengths
total-sum = is_sum_by total (λ x. x) refl (λ x xs. refl)

-- what is before an index and what stands there
pub both-within : (lengths : List ℕ) (i : ℕ) → i < length lengths
    → total (take i lengths) + get_or lengths i 0 ≤ total lengths
both-within lengths i less =
    omega (
      arith,
      total-sum lengths,
      total-sum (take i lengths),
      sum_by_more_le (λ x. x) lengths i 0 less,
    )
