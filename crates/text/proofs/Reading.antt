-- Words read as numbers: a digit's range, the digits passed, and the number that they spell.
use mathlib.Core.Path.{◌≡◌, refl, sym, ap, ◌∙◌}
use mathlib.Core.Bool.{Bool, true, false, not, cond}
use mathlib.Core.List.{List, [], ◌∷◌}
use Prim.Native.Nat.{ℕ, suc, ◌+◌, ◌-◌, ◌*◌, ◌/◌, ◌^◌, ◌≤◌, ◌<◌}
use native.Mathlib.Nat.{le-div_iff_mul-le, div-lt_iff_lt-mul, le-mul_of_pos_right}
use native.Mathlib.Numerals.{add-one}
use native.Mathlib.Omega.{arith}
use lib.Dec.{leb, ltb}
use lib.ListN.{length, get_or, drop, drop_of_length-le}
use lib.Seq.{drop-cons}
use borrow.Author.Tests.{le-leb, lt-leb, ltb-true, lt-ltb, le-ltb, not-true, not-false}
use mathlib.Core.Logic.{◌↔◌}
use Rattle.std.proofs.lemmas.List.Recursion.{and_at, and_from_places}
use Rattle.std.proofs.lemmas.Option.{none-some, same_Some}
use Rattle.std.specs.Prelude.{Some, None, Result, Ok, Err}
use Rattle.text.specs.declared.numbers.NotNumber.{NotNumber}
use Rattle.text.specs.declared.numbers.NotNumber.TheVariants.{TooLarge, Bad}
use Rattle.laws.proofs.Bools.{and-false}
use Rattle.text.specs.Numbers.{between, digit_value, digit_in, all_digits, value_after, value_of, fitting, number_in}

pub inside : (low high b : ℕ) → low ≤ b → b ≤ high → between low high b ≡ true
inside low high b h g = rw (le-leb low b h, le-leb b high g)

pub under : (low high b : ℕ) → b < low → between low high b ≡ false
under low high b h = rw (lt-leb low b h)

pub over : (low high b : ℕ) → high < b → between low high b ≡ false
over low high b h = rw (lt-leb b high h) (and-false (leb low b))

-- a digit's value, and 16 where there is none
module _ (b : ℕ) where
  pub some-digit : (d : ℕ) → Some d ≡ digit_in b → d ≡ digit_value b
  unfolding digit_in digit_value
  some-digit d is = by (between 48 57 b) (between 65 70 b) (between 97 102 b) is
    where
      by : (digit upper lower : Bool)
          → Some d ≡ cond digit (Some (b - 48)) (cond upper (Some (b - 65 + 10)) (cond lower (Some (b - 97 + 10)) None))
          → d ≡ cond digit (b - 48) (cond upper (b - 65 + 10) (cond lower (b - 97 + 10) 16))
      by true upper lower is = same_Some _ _ is
      by false true lower is = same_Some _ _ is
      by false false true is = same_Some _ _ is
      by false false false is = absurd (none-some d (sym is))

  pub no-digit : None ≡ digit_in b → 16 ≡ digit_value b
  unfolding digit_in digit_value
  no-digit is = by (between 48 57 b) (between 65 70 b) (between 97 102 b) is
    where
      by : (digit upper lower : Bool)
          → None ≡ cond digit (Some (b - 48)) (cond upper (Some (b - 65 + 10)) (cond lower (Some (b - 97 + 10)) None))
          → 16 ≡ cond digit (b - 48) (cond upper (b - 65 + 10) (cond lower (b - 97 + 10) 16))
      by true upper lower is = absurd (none-some (b - 48) is)
      by false true lower is = absurd (none-some (b - 65 + 10) is)
      by false false true is = absurd (none-some (b - 97 + 10) is)
      by false false false is = refl

-- the bytes before i spell v
pub record Spelled (base : ℕ) (s : List ℕ) (v i : ℕ) : Type 0 where
  pub within : i ≤ length s
  pub small : v < 2 ^ 64
  pub same : value_of base s ≡ value_after base v (drop i s)

-- v with one digit more is at most the largest number, or above it
pub one-more : (base v d most : ℕ) → v ≤ (most - d) / base → 0 < base → d ≤ most → v * base + d ≤ most
one-more base v d most g pos h =
    let small : v * base ≤ most - d = (le-div_iff_mul-le pos).0 g in omega arith

pub one-too-many : (base v d most : ℕ) → (most - d) / base < v → 0 < base → most < v * base + d
one-too-many base v d most g pos =
    let large : most - d < v * base = (div-lt_iff_lt-mul pos).0 g in omega arith

module _ (base : ℕ) (s : List ℕ) where
  -- each byte is a digit, or one is not
  digits-are : (digits : Bool) → (digits ≡ true ↔ ((k : ℕ) → k < length s → digit_value (get_or s k 0) < base))
      → digits ≡ all_digits base s
  unfolding all_digits
  digits-are digits is = go digits is
    where
      test : ℕ → Bool
      test b = ltb (digit_value b) base

      go : (digits : Bool) → (digits ≡ true ↔ ((k : ℕ) → k < length s → digit_value (get_or s k 0) < base))
          → digits ≡ all_digits base s
      go true is =
          let each = is.0 refl in
          sym (and_from_places (all_digits base) test refl (λ x xs. refl) s 0 (λ k less. lt-ltb _ _ (each k less)))
      go false is = by (all_digits base s) refl
        where
          by : (every : Bool) → all_digits base s ≡ every → false ≡ every
          by true so =
              is.1 (λ k less. ltb-true _ _ (and_at (all_digits base) test refl (λ x xs. refl) s k 0 less so))
          by false so = refl

  pub spelled_none : Spelled base s 0 0
  spelled_none = record { within = omega arith; small = omega arith; same = refl }

  pub spelled-more : (v i d : ℕ) → d ≡ digit_value (get_or s i 0) → Spelled base s v i → i < length s
      → v * base + d < 2 ^ 64 → Spelled base s (v * base + d) (i + 1)
  unfolding value_after
  spelled-more v i d e p h small =
      record { within = omega arith; small = small; same = p.same ∙ rw (drop-cons s i 0, e, add-one) }

  pub spelled-all : (v i : ℕ) → Spelled base s v i → length s ≤ i → Ok v ≡ fitting (value_of base s)
  unfolding fitting value_after
  spelled-all v i p h =
      let read : value_of base s ≡ v = p.same ∙ ap (value_after base v) (drop_of_length-le s h) in
      rw (read, lt-ltb v (2 ^ 64) p.small)

  grows : (v : ℕ) (bs : List ℕ) → 0 < base → v ≤ value_after base v bs
  unfolding value_after
  grows v [] pos = omega arith
  grows v (b ∷ bs) pos = omega (arith, grows (v * base + digit_value b) bs pos, le-mul_of_pos_right {m = base} v pos)

  pub spelled-large : (v i d : ℕ) → d ≡ digit_value (get_or s i 0) → Spelled base s v i → i < length s → 0 < base
      → 2 ^ 64 ≤ v * base + d → Err TooLarge ≡ fitting (value_of base s)
  unfolding fitting value_after
  spelled-large v i d e p h pos large =
      let rest = drop (suc i) s in
      let read : value_of base s ≡ value_after base (v * base + d) rest = p.same ∙ rw (drop-cons s i 0, e) in
      let past : 2 ^ 64 ≤ value_of base s = omega (arith, grows (v * base + d) rest pos) in
      rw (le-ltb (value_of base s) (2 ^ 64) past)

  pub number-empty : length s ≡ 0 → Err Bad ≡ number_in base s
  unfolding number_in
  number-empty e = rw e

  pub number-bad : (digits : Bool)
      → (digits ≡ true ↔ ((k : ℕ) → k < length s → digit_value (get_or s k 0) < base)) → not digits ≡ true → Err Bad ≡ number_in base s
  unfolding number_in
  number-bad digits e t = rw (← digits-are digits e, not-true digits t, and-false)

  pub number-good : (r : Result ℕ NotNumber) (digits : Bool)
      → (digits ≡ true ↔ ((k : ℕ) → k < length s → digit_value (get_or s k 0) < base)) → not digits ≡ false → (length s ≡ 0 → ⊥)
      → r ≡ fitting (value_of base s) → r ≡ number_in base s
  unfolding number_in
  number-good r digits e t some q =
      let long : 0 < length s = omega arith in
      rw (← digits-are digits e, not-false digits t, lt-ltb 0 (length s) long) q
