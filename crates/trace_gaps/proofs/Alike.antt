-- Stamps that are all so far apart, passed one by one.
use mathlib.Core.Path.{◌≡◌}
use mathlib.Core.Bool.{true, false}
use mathlib.Core.List.{List}
use Prim.Native.Nat.{ℕ, ◌+◌, ◌-◌, ◌≤◌, ◌<◌}
use native.Mathlib.Numerals.{add-one}
use lib.ListN.{length, get_or, drop, drop_of_length-le}
use lib.Seq.{drop-cons}
use borrow.Author.Tests.{eq-eqb, ne_eqb}
use Rattle.trace_gaps.specs.Gaps.{all_apart}

module _ (gap last : ℕ) (stamps : List ℕ) (i : ℕ) where
  pub apart_more : i < length stamps → get_or stamps i 0 - last ≡ gap
      → all_apart gap last (drop i stamps) ≡ all_apart gap (get_or stamps i 0) (drop (i + 1) stamps)
  unfolding all_apart
  apart_more h e = rw (drop-cons stamps i 0, add-one, all_apart, eq-eqb (get_or stamps i 0 - last) gap e)

  pub apart_other : i < length stamps → (get_or stamps i 0 - last ≡ gap → ⊥) → all_apart gap last (drop i stamps) ≡ false
  unfolding all_apart
  apart_other h e = rw (drop-cons stamps i 0, all_apart, ne_eqb (get_or stamps i 0 - last) gap e)

  pub apart-all : length stamps ≤ i → all_apart gap last (drop i stamps) ≡ true
  unfolding all_apart
  apart-all h = rw (drop_of_length-le stamps h)
