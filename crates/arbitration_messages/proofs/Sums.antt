-- Lengths summed from the front, and joined.
use Prim.Native.Nat.{ℕ, zero, suc, ◌+◌, ◌<◌, ◌≤◌}
use mathlib.Core.Path.{◌≡◌, refl, ap}
use mathlib.Core.List.{List, [], ◌∷◌, ◌++◌}
use native.Mathlib.Numerals.{add-one}
use native.Mathlib.Omega.{arith}
use lib.ListN.{length, get_or, drop, replicate, drop_of_length-le}
use lib.Seq.{drop-cons}
use Rattle.arbitration_rules.specs.Reply.{total}

module _ (lengths : List ℕ) (i : ℕ) where
  -- one length more in the sum from the front
  pub summed-more : (sum : ℕ) → sum + total (drop i lengths) ≡ total lengths → i < length lengths
      → sum + get_or lengths i 0 + total (drop (i + 1) lengths) ≡ total lengths
  summed-more sum same less = rw add-one (omega (arith, same, ap total (drop-cons lengths i 0 less)))

  pub summed-all : (sum : ℕ) → sum + total (drop i lengths) ≡ total lengths → length lengths ≤ i → sum ≡ total lengths
  summed-all sum same all = omega (arith, same, ap total (drop_of_length-le lengths all))

pub total-append : (lengths more : List ℕ) → total (lengths ++ more) ≡ total lengths + total more
total-append [] more = omega arith
total-append (count ∷ counts) more = omega (arith, total-append counts more)

pub total-none : (count : ℕ) → total (replicate count 0) ≡ 0
total-none zero = refl
total-none (suc count) = omega (arith, total-none count)
