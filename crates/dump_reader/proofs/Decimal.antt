-- A number in decimal reads back as itself.
use mathlib.Core.Path.{◌≡◌, refl, ◌∙◌}
use mathlib.Core.Bool.{Bool, true, false, cond, ◌&&◌}
use mathlib.Core.List.{List, [], ◌∷◌, ◌++◌}
use Prim.Native.Nat.{ℕ, zero, suc, ◌+◌, ◌*◌, ◌/◌, ◌%◌, ◌^◌, ◌<◌}
use native.Mathlib.Omega.{arith}
use borrow.Author.Tests.{lt-ltb, ltb-true, ltb-false}
use lib.Dec.{ltb}
use lib.ListN.{length, length-append}
use Rattle.std.specs.Prelude.{Ok}
use Rattle.text.specs.Numbers.{between, digit_value, all_digits, value_after, fitting, number_in}
use Rattle.text.specs.Output.{digit_byte, decimal_up_to, decimal_text}
use Rattle.text.proofs.Reading.{inside}

digit-back : (d : ℕ) → d < 10 → digit_value (digit_byte d) ≡ d
unfolding digit_value digit_byte
digit-back d small =
    let digit : between 48 57 (48 + d) ≡ true = inside 48 57 (48 + d) (omega arith) (omega arith) in
    rw (lt-ltb d 10 small, digit) (omega arith)

value-append : (v : ℕ) (front back : List ℕ)
    → value_after 10 v (front ++ back) ≡ value_after 10 (value_after 10 v front) back
unfolding value_after
value-append v [] back = refl
value-append v (b ∷ front) back = value-append (v * 10 + digit_value b) front back

one-digit : (v d : ℕ) → d < 10 → value_after 10 v (digit_byte d ∷ []) ≡ v * 10 + d
unfolding value_after
one-digit v d small = rw (digit-back d small)

value-back : (most n : ℕ) → n < most → value_after 10 0 (decimal_up_to most n) ≡ n
unfolding decimal_up_to
value-back zero n less = absurd (omega arith)
value-back (suc most) n less = go (ltb n 10) refl (value-back most (n / 10))
  where
    last : (v : ℕ) → value_after 10 v (digit_byte (n % 10) ∷ []) ≡ v * 10 + n % 10
    last v = let small : n % 10 < 10 = omega arith in one-digit v (n % 10) small

    go : (small : Bool) → ltb n 10 ≡ small → (n / 10 < most → value_after 10 0 (decimal_up_to most (n / 10)) ≡ n / 10)
        → value_after 10 0 (cond small [] (decimal_up_to most (n / 10)) ++ (digit_byte (n % 10) ∷ [])) ≡ n
    go true is front = last 0 ∙ (let few = ltb-true n 10 is in omega arith)
    go false is front =
        let many = ltb-false n 10 is in
        let back = front (omega arith) in
        value-append 0 (decimal_up_to most (n / 10)) (digit_byte (n % 10) ∷ [])
        ∙ rw back (last (n / 10) ∙ omega arith)

digits_append : (front back : List ℕ) → all_digits 10 front ≡ true → all_digits 10 back ≡ true
    → all_digits 10 (front ++ back) ≡ true
unfolding all_digits
digits_append [] back one two = two
digits_append (b ∷ front) back one two = go (ltb (digit_value b) 10) one (digits_append front back)
  where
    go : (head : Bool) → head && all_digits 10 front ≡ true
        → (all_digits 10 front ≡ true → all_digits 10 back ≡ true → all_digits 10 (front ++ back) ≡ true)
        → head && all_digits 10 (front ++ back) ≡ true
    go true one rest = rest one two
    go false one rest = one

digits-one : (d : ℕ) → d < 10 → all_digits 10 (digit_byte d ∷ []) ≡ true
unfolding all_digits
digits-one d small = rw (digit-back d small, lt-ltb d 10 small)

digits-back : (most n : ℕ) → all_digits 10 (decimal_up_to most n) ≡ true
unfolding decimal_up_to all_digits
digits-back zero n = refl
digits-back (suc most) n = go (ltb n 10) (digits-back most (n / 10))
  where
    go : (small : Bool) → all_digits 10 (decimal_up_to most (n / 10)) ≡ true
        → all_digits 10 (cond small [] (decimal_up_to most (n / 10)) ++ (digit_byte (n % 10) ∷ [])) ≡ true
    go true front = let small : n % 10 < 10 = omega arith in digits-one (n % 10) small
    go false front =
        let small : n % 10 < 10 = omega arith in
        digits_append (decimal_up_to most (n / 10)) (digit_byte (n % 10) ∷ []) front (digits-one (n % 10) small)

some-digit : (n : ℕ) → 0 < length (decimal_text n)
unfolding decimal_up_to
some-digit n = omega (arith, length-append (cond (ltb n 10) [] (decimal_up_to n (n / 10))) (digit_byte (n % 10) ∷ []))

pub number-back : (n : ℕ) → n < 2 ^ 64 → number_in 10 (decimal_text n) ≡ Ok n
unfolding number_in fitting
number-back n small =
    let self : n < suc n = omega arith in
    rw (lt-ltb 0 (length (decimal_text n)) (some-digit n), digits-back (suc n) n, value-back (suc n) n self)
    (rw (lt-ltb n (2 ^ 64) small))
