-- What tests joined by `and` and `or` say of each.
use mathlib.Core.Path.{◌≡◌, refl, sym}
use mathlib.Core.Bool.{Bool, true, false, not, ◌&&◌, ◌||◌, beq, false≢true}
use Prim.Native.Nat.{ℕ, zero, suc, ◌<◌, ◌≤◌, min}
use native.Mathlib.Omega.{arith}
use mir.Val.{bool_byte}
use lib.Dec.{eqb, ltb}
use borrow.Author.Tests.{ltb-true, ltb-false}

pub neither : (a b : Bool) → a || b ≡ false → (a ≡ false) × (b ≡ false)
neither true b h = (h, absurd (false≢true (sym h)))
neither false b h = (refl, h)

pub both : (a b : Bool) → a && b ≡ true → (a ≡ true) × (b ≡ true)
both true b h = (refl, h)
both false b h = (h, absurd (false≢true h))

pub and-false : (b : Bool) → b && false ≡ false
and-false true = refl
and-false false = refl

-- a digit that is a bit, and a bit as a number
pub bit-digit : (digit : ℕ) → digit < 2 → bool_byte (eqb digit 1) ≡ digit
bit-digit zero small = refl
bit-digit (suc zero) small = refl
bit-digit (suc (suc digit)) small = absurd (omega arith)

pub bool-byte : (b : Bool) → bool_byte b ≤ 1
bool-byte true = omega arith
bool-byte false = omega arith

-- two bits compared
pub alike : (a b : Bool) → beq a b ≡ true → a ≡ b
alike true true h = refl
alike true false h = absurd (false≢true h)
alike false true h = absurd (false≢true h)
alike false false h = refl

pub unlike : (a b : Bool) → beq a b ≡ false → b ≡ not a
unlike true true h = absurd (false≢true (sym h))
unlike true false h = refl
unlike false true h = refl
unlike false false h = absurd (false≢true (sym h))

-- a loop's test of two ends
pub below_both : (i end limit : ℕ) → ltb i end && ltb i limit ≡ true → i < min end limit
below_both i end limit test =
    let two = both (ltb i end) (ltb i limit) test in
    omega (arith, ltb-true i end two.0, ltb-true i limit two.1)

pub past-either : (i end limit : ℕ) → ltb i end && ltb i limit ≡ false → min end limit ≤ i
past-either i end limit test = go (ltb i end) refl
  where
    go : (inside : Bool) → ltb i end ≡ inside → min end limit ≤ i
    go true is = omega (arith, ltb-false i limit (rw is at test))
    go false is = omega (arith, ltb-false i end is)
