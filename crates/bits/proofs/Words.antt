-- A number of two halves under a mask: each half is tested by its part of the mask.
use mathlib.Core.Path.{◌≡◌, refl, ◌∙◌, sym, ap, ap₂}
use mathlib.Core.Bool.{Bool, true, false, ◌&&◌}
use Prim.Native.Nat.{ℕ, ◌+◌, ◌*◌, ◌/◌, ◌%◌, ◌^◌, ◌<◌}
use native.Mathlib.Nat.{div-add-mod', mod-lt}
use lib.Arith.{digits_div, digits_mod}
use lib.Pow.{pow_pos}
use lib.Dec.{eqb}
use lib.Bits.{bit_and, and_block, and_lt}
use borrow.Author.Tests.{eq-eqb, ne_eqb, eqb-true, eqb-false}

-- two numbers are equal where both halves are
digits-equal : (k a b c d : ℕ) → b < 2 ^ k → d < 2 ^ k → eqb (a * 2 ^ k + b) (c * 2 ^ k + d) ≡ eqb a c && eqb b d
digits-equal k a b c d small below = go (eqb a c) (eqb b d) refl refl
  where
    go : (high low : Bool) → eqb a c ≡ high → eqb b d ≡ low → eqb (a * 2 ^ k + b) (c * 2 ^ k + d) ≡ high && low
    go true true same alike =
        eq-eqb (a * 2 ^ k + b) (c * 2 ^ k + d) (ap₂ (λ (x y : ℕ). x * 2 ^ k + y) (eqb-true a c same) (eqb-true b d alike))
    go true false same differ =
        ne_eqb (a * 2 ^ k + b) (c * 2 ^ k + d)
        (λ e. eqb-false b d differ (sym (digits_mod a small) ∙ ap (λ (x : ℕ). x % 2 ^ k) e ∙ digits_mod c below))
    go false low differ any =
        ne_eqb (a * 2 ^ k + b) (c * 2 ^ k + d)
        (λ e. eqb-false a c differ (sym (digits_div a small) ∙ ap (λ (x : ℕ). x / 2 ^ k) e ∙ digits_div c below))

pub halves-tested : (k high low mask value : ℕ) → low < 2 ^ k → eqb (bit_and (high * 2 ^ k + low) mask) value
    ≡ eqb (bit_and high (mask / 2 ^ k)) (value / 2 ^ k) && eqb (bit_and low (mask % 2 ^ k)) (value % 2 ^ k)
halves-tested k high low mask value small =
    let part : mask % 2 ^ k < 2 ^ k = mod-lt mask (pow_pos k) in
    ap₂ (λ (m v : ℕ). eqb (bit_and (high * 2 ^ k + low) m) v) (sym (div-add-mod' mask (2 ^ k)))
    (sym (div-add-mod' value (2 ^ k)))
    ∙ ap (λ (x : ℕ). eqb x (value / 2 ^ k * 2 ^ k + value % 2 ^ k)) (and_block k high (mask / 2 ^ k) low (mask % 2 ^ k) small part)
    ∙ digits-equal k (bit_and high (mask / 2 ^ k)) (bit_and low (mask % 2 ^ k)) (value / 2 ^ k) (value % 2 ^ k)
    (and_lt k low (mask % 2 ^ k) small part) (mod-lt value (pow_pos k))
