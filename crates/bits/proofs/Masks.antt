-- Masks against positions: what a mask selects is what stands at its position, whatever the number.
use mathlib.Core.Path.{◌≡◌, refl, ◌∙◌, sym, ap}
use mathlib.Core.Bool.{Bool, true, false, not, ◌&&◌, ◌||◌}
use Prim.Native.Nat.{ℕ, zero, suc, ◌+◌, ◌-◌, ◌*◌, ◌/◌, ◌%◌, ◌^◌, ◌<◌, ◌≤◌, min, max}
use native.Mathlib.Numerals.{add-one}
use native.Mathlib.Nat.{add_comm, mod-lt, pow-suc, lt_of_lt_of_le, div-eq_of_lt}
use native.Mathlib.Omega.{arith}
use lib.Arith.{digits_mod}
use lib.Pow.{pow_pos, pow_mono}
use lib.Dec.{eqb}
use lib.Bits.{bit_and, bit_or, and_step, or_step, and_shr, or_shr, and_mask, and_high, or_shifted}
use borrow.Author.Tests.{eq-eqb, ne_eqb}
use mir.Val.{bool_byte}
use Rattle.bits.specs.Positions.{digit, is_set, field, bit, lowest, on, off, raise, clear, shift_in}

-- a digit is 0 or 1: a claim about it is checked at both
at-digit : (P : ℕ → Type 0) → P 0 → P 1 → (d : ℕ) → d < 2 → P d
at-digit P p q zero h = p
at-digit P p q (suc zero) h = q
at-digit P p q (suc (suc d)) h = absurd (omega arith)

digit_lt : (position x : ℕ) → digit position x < 2
digit_lt position x = mod-lt (x / 2 ^ position) (omega arith)

is-and : (a : ℕ) → a < 2 → (b : ℕ) → b < 2 → eqb (min a b) 1 ≡ eqb a 1 && eqb b 1
is-and =
    at-digit (λ a. (b : ℕ) → b < 2 → eqb (min a b) 1 ≡ eqb a 1 && eqb b 1)
    (at-digit (λ b. eqb (min 0 b) 1 ≡ eqb 0 1 && eqb b 1) refl refl)
    (at-digit (λ b. eqb (min 1 b) 1 ≡ eqb 1 1 && eqb b 1) refl refl)

is-or : (a : ℕ) → a < 2 → (b : ℕ) → b < 2 → eqb (max a b) 1 ≡ eqb a 1 || eqb b 1
is-or =
    at-digit (λ a. (b : ℕ) → b < 2 → eqb (max a b) 1 ≡ eqb a 1 || eqb b 1)
    (at-digit (λ b. eqb (max 0 b) 1 ≡ eqb 0 1 || eqb b 1) refl refl)
    (at-digit (λ b. eqb (max 1 b) 1 ≡ eqb 1 1 || eqb b 1) refl refl)

least : (a : ℕ) → a < 2 → (b : ℕ) → b < 2 → min a b < 2
least = at-digit (λ a. (b : ℕ) → b < 2 → min a b < 2) (at-digit (λ b. min 0 b < 2) (omega arith) (omega arith))
    (at-digit (λ b. min 1 b < 2) (omega arith) (omega arith))

most : (a : ℕ) → a < 2 → (b : ℕ) → b < 2 → max a b < 2
most = at-digit (λ a. (b : ℕ) → b < 2 → max a b < 2) (at-digit (λ b. max 0 b < 2) (omega arith) (omega arith))
    (at-digit (λ b. max 1 b < 2) (omega arith) (omega arith))

-- a bit of a & b and of a | b
pub is_set-and : (position a b : ℕ) → is_set position (bit_and a b) ≡ is_set position a && is_set position b
is_set-and p a b =
    ap (λ (x : ℕ). eqb (x % 2) 1) (and_shr a b p ∙ and_step (a / 2 ^ p) (b / 2 ^ p))
    ∙ ap (λ (x : ℕ). eqb x 1) (digits_mod (bit_and (a / 2 ^ p / 2) (b / 2 ^ p / 2))
    (least (digit p a) (digit_lt p a) (digit p b) (digit_lt p b)))
    ∙ is-and (digit p a) (digit_lt p a) (digit p b) (digit_lt p b)

pub is_set-or : (position a b : ℕ) → is_set position (bit_or a b) ≡ is_set position a || is_set position b
is_set-or p a b =
    ap (λ (x : ℕ). eqb (x % 2) 1) (or_shr a b p ∙ or_step (a / 2 ^ p) (b / 2 ^ p))
    ∙ ap (λ (x : ℕ). eqb x 1) (digits_mod (bit_or (a / 2 ^ p / 2) (b / 2 ^ p / 2))
    (most (digit p a) (digit_lt p a) (digit p b) (digit_lt p b)))
    ∙ is-or (digit p a) (digit_lt p a) (digit p b) (digit_lt p b)

-- x & 2^p is the digit at p, in its place
pub one_bit : (position x : ℕ) → bit_and x (bit position) ≡ digit position x * bit position
one_bit p x =
    let double : 2 ^ (1 + p) ≡ 2 ^ p * 2 = ap (λ (k : ℕ). 2 ^ k) (add_comm 1 p) ∙ ap (λ (k : ℕ). 2 ^ k) (add-one p)
    ∙ pow-suc 2 p in
    let whole : bit p ≡ 2 ^ (1 + p) - 2 ^ p = omega arith in
    ap (λ (m : ℕ). bit_and x m) whole ∙ and_high x 1 p

-- the test of one bit by its mask is the test of its digit
pub on_bit : (x position : ℕ) → on x (bit position) ≡ is_set position x
on_bit x p =
    ap (λ (a : ℕ). eqb a (bit p)) (one_bit p x)
    ∙ at-digit (λ d. eqb (d * bit p) (bit p) ≡ eqb d 1) (ne_eqb (0 * bit p) (bit p) (λ e. omega (arith, pow_pos p)))
    (eq-eqb (1 * bit p) (bit p) (omega arith)) (digit p x) (digit_lt p x)

pub off-bit : (x position : ℕ) → off x (bit position) ≡ not (is_set position x)
off-bit x p =
    ap (λ (a : ℕ). eqb a 0) (one_bit p x)
    ∙ at-digit (λ d. eqb (d * bit p) 0 ≡ not (eqb d 1)) (eq-eqb (0 * bit p) 0 (omega arith))
    (ne_eqb (1 * bit p) 0 (λ e. omega (arith, pow_pos p))) (digit p x) (digit_lt p x)

-- shifted down and masked, the lowest bits are the field at that position
pub field-mask : (position width x : ℕ) → bit_and (x / 2 ^ position) (lowest width) ≡ field position width x
field-mask position width x = and_mask (x / 2 ^ position) width

-- a bit as a number
pub bool_lt : (b : Bool) → bool_byte b < 2
bool_lt true = omega arith
bool_lt false = omega arith

-- the bit that enters at position 0 disturbs no other
pub shift-or : (x : ℕ) (low : Bool) → bit_or (x * 2 % 256) (bool_byte low) ≡ shift_in x low
shift-or x low =
    let even : x * 2 % 256 ≡ x % 128 * 2 ^ 1 = omega arith in
    ap (λ (a : ℕ). bit_or a (bool_byte low)) even ∙ or_shifted (x % 128) 1 (bool_byte low) (bool_lt low)
    ∙ ap (λ (a : ℕ). a + bool_byte low) (sym even)

-- a number below 2^p has no bit at p
pub small-unset : (x position : ℕ) → x < 2 ^ position → is_set position x ≡ false
small-unset x p small = ap (λ (q : ℕ). eqb (q % 2) 1) (div-eq_of_lt small)

-- a byte has no bit from position 8 on
pub past-byte : (position x : ℕ) → 8 ≤ position → x < 256 → is_set position x ≡ false
past-byte position x past small = small-unset x position (lt_of_lt_of_le small (pow_mono past))

or-false : (b : Bool) → b || false ≡ b
or-false true = refl
or-false false = refl

pub and-true : (b : Bool) → b && true ≡ b
and-true true = refl
and-true false = refl

-- setting or clearing the bits of a mask leaves a bit outside it
is_set-raised : (x mask position : ℕ) → is_set position mask ≡ false → is_set position (raise x mask) ≡ is_set position x
is_set-raised x mask p outside =
    is_set-or p x mask ∙ ap (λ (b : Bool). is_set p x || b) outside ∙ or-false (is_set p x)

is_set-cleared : (x mask position : ℕ) → is_set position (255 - mask) ≡ true → is_set position (clear x mask) ≡ is_set
    position x
is_set-cleared x mask p outside =
    is_set-and p x (255 - mask) ∙ ap (λ (b : Bool). is_set p x && b) outside ∙ and-true (is_set p x)

pub on-raised : (x mask position : ℕ) → is_set position mask ≡ false → on (raise x mask) (bit position) ≡ on x
    (bit position)
on-raised x mask p outside = on_bit (raise x mask) p ∙ is_set-raised x mask p outside ∙ sym (on_bit x p)

pub off-raised : (x mask position : ℕ) → is_set position mask ≡ false → off (raise x mask) (bit position) ≡ off x
    (bit position)
off-raised x mask p outside =
    off-bit (raise x mask) p ∙ ap not (is_set-raised x mask p outside) ∙ sym (off-bit x p)

pub on-cleared : (x mask position : ℕ) → is_set position (255 - mask) ≡ true → on (clear x mask) (bit position) ≡ on x
    (bit position)
on-cleared x mask p outside = on_bit (clear x mask) p ∙ is_set-cleared x mask p outside ∙ sym (on_bit x p)

pub off-cleared : (x mask position : ℕ) → is_set position (255 - mask) ≡ true → off (clear x mask) (bit position) ≡ off
    x (bit position)
off-cleared x mask p outside =
    off-bit (clear x mask) p ∙ ap not (is_set-cleared x mask p outside) ∙ sym (off-bit x p)
