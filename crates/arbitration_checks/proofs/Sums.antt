-- The greatest of the lengths, from the front.
use Prim.Native.Nat.{ℕ, ◌+◌, ◌<◌, ◌≤◌, max}
use mathlib.Core.Path.{◌≡◌, ap}
use mathlib.Core.List.{List}
use native.Mathlib.Numerals.{add-one}
use native.Mathlib.Omega.{arith}
use lib.ListN.{length, get_or, drop, drop_of_length-le}
use lib.Seq.{drop-cons}
use Rattle.arbitration_rules.specs.Reply.{longest}

module _ (lengths : List ℕ) (i : ℕ) where
  -- one length more in the greatest from the front
  pub most-more : (most : ℕ) → max most (longest (drop i lengths)) ≡ longest lengths → i < length lengths
      → max (max most (get_or lengths i 0)) (longest (drop (i + 1) lengths)) ≡ longest lengths
  most-more most same less = rw add-one (omega (arith, same, ap longest (drop-cons lengths i 0 less)))

  pub most-all : (most : ℕ) → max most (longest (drop i lengths)) ≡ longest lengths → length lengths ≤ i
      → most ≡ longest lengths
  most-all most same all = omega (arith, same, ap longest (drop_of_length-le lengths all))
