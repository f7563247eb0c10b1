-- The stamps that encode writes.
use mathlib.Core.Path.{◌≡◌, refl, ap}
use mathlib.Core.List.{[], ◌∷◌, ◌++◌}
use Prim.Native.Nat.{ℕ, zero, suc, ◌+◌, ◌*◌, ◌-◌, ◌≤◌, ◌<◌}
use native.Mathlib.Nat.{mul-suc, mul-le-mul_left}
use native.Mathlib.Numerals.{add-one}
use native.Mathlib.Omega.{arith}
use lib.ListN.{length}
use Rattle.encode.specs.Encode.{stamps_from, last_stamp}

pub length-stamps : (start gap count : ℕ) → length (stamps_from start gap count) ≡ count
length-stamps start gap zero = refl
length-stamps start gap (suc count) = ap suc (length-stamps (start + gap) gap count)

-- no stamp is above the last
pub stamp-fits : (start gap count i : ℕ) → i < count → start + gap * i ≤ last_stamp start gap count
stamp-fits start gap count i h =
    let below : i ≤ count - 1 = omega arith in omega (arith, mul-le-mul_left gap below)

-- what is left is the i-th stamp, and what is left then
pub stamps-more : (start gap count i : ℕ) → i < count
    → stamps_from (start + gap * i) gap (count - i)
    ≡ ((start + gap * i) ∷ []) ++ stamps_from (start + gap * (i + 1)) gap (count - (i + 1))
stamps-more start gap count i h =
    let less : count - i ≡ suc (count - (i + 1)) = omega arith in
    let next : start + gap * (i + 1) ≡ start + gap * i + gap = rw (add-one, mul-suc gap i) (omega arith) in
    rw (less, next)

pub stamps-end : (start gap count i : ℕ) → count ≤ i → stamps_from (start + gap * i) gap (count - i) ≡ []
stamps-end start gap count i h = let none : count - i ≡ 0 = omega arith in rw none
