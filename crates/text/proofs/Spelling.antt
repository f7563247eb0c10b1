-- The digits of a number: the last one, and those before it.
use mathlib.Core.Path.{◌≡◌, refl, ap}
use mathlib.Core.Bool.{Bool, true, false, cond}
use mathlib.Core.List.{List, [], ◌∷◌, ◌++◌}
use Prim.Native.Nat.{ℕ, zero, suc, ◌/◌, ◌%◌, ◌≤◌, ◌<◌}
use native.Mathlib.Omega.{arith}
use lib.Dec.{ltb}
use borrow.Author.Tests.{ltb-false, lt-ltb, le-ltb}
use Rattle.text.specs.Output.{digit_byte, decimal_up_to, decimal_text, hex_text}

-- a case that is not taken does not matter
other-same : {A : Type 0} (b : Bool) (x y z : A) → (b ≡ false → y ≡ z) → cond b x y ≡ cond b x z
other-same true x y z f = refl
other-same false x y z f = f refl

-- any number of digits above n is enough for n
decimal-enough : (j k n : ℕ) → n < j → n < k → decimal_up_to j n ≡ decimal_up_to k n
unfolding decimal_up_to
decimal-enough zero k n h g = absurd (omega arith)
decimal-enough (suc j) zero n h g = absurd (omega arith)
decimal-enough (suc j) (suc k) n h g =
    ap
    (λ (front : List ℕ). front ++ (digit_byte (n % 10) ∷ []))
    (other-same (ltb n 10) _ _ _
    (λ e.
    let large : 10 ≤ n = ltb-false n 10 e in
    let less-j : n / 10 < j = omega arith in
    let less-k : n / 10 < k = omega arith in
    decimal-enough j k (n / 10) less-j less-k))

pub decimal-one : (n last : ℕ) → last ≡ digit_byte (n % 10) → n < 10 → decimal_text n ≡ last ∷ []
unfolding decimal_up_to
decimal-one n last e h = rw (lt-ltb n 10 h, e)

pub decimal-more : (n last : ℕ) → last ≡ digit_byte (n % 10) → 10 ≤ n
    → decimal_text n ≡ decimal_text (n / 10) ++ (last ∷ [])
unfolding decimal_up_to
decimal-more n last e h =
    let less : n / 10 < n = omega arith in
    let self : n / 10 < suc (n / 10) = omega arith in
    rw (le-ltb n 10 h, e)
    (ap (λ (l : List ℕ). l ++ (digit_byte (n % 10) ∷ [])) (decimal-enough n (suc (n / 10)) (n / 10) less self))

pub hex-byte : (b high low : ℕ) → high ≡ digit_byte (b / 16) → low ≡ digit_byte (b % 16) → b < 256
    → hex_text 2 b ≡ (high ∷ []) ++ (low ∷ [])
unfolding hex_text
hex-byte b high low e f h =
    let small : b / 16 % 16 ≡ b / 16 = omega arith in
    rw (e, f, small)

pub hex-word : (w : ℕ) → hex_text 4 w ≡ hex_text 2 (w / 256) ++ hex_text 2 (w % 256)
unfolding hex_text
hex-word w =
    let a : w / 16 / 16 / 16 % 16 ≡ w / 256 / 16 % 16 = omega arith in
    let b : w / 16 / 16 % 16 ≡ w / 256 % 16 = omega arith in
    let c : w / 16 % 16 ≡ w % 256 / 16 % 16 = omega arith in
    let d : w % 16 ≡ w % 256 % 16 = omega arith in
    rw (a, b, c, d)
