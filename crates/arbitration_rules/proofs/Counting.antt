-- What a turn needs to know of the bits still to go: a count below 32 is the field CNT itself, with no other bit of
-- USICNT set.
use Prim.Native.Nat.{ℕ, zero, suc, ◌-◌, ◌*◌, ◌/◌, ◌%◌, ◌<◌}
use native.Mathlib.Omega.{arith}
use native.Mathlib.Nat.{mod-eq_of_lt}
use mathlib.Core.Path.{◌≡◌, refl, ap, ap₂, ◌∙◌}
use mathlib.Core.Bool.{cond, true, not}
use lib.Dec.{eqb}
use lib.Bits.{bit_or, and_mask, and_high}
use borrow.Author.Tests.{ne_eqb}
use Rattle.bits.specs.Positions.{off, raise, clear}
use Rattle.usi_registers.specs.Registers.{USIIFG, USI16B, USICNTx}
use Rattle.usi_registers.specs.Rules.{bit_count, counting}
use Rattle.usi_i2c.specs.Rules.{count_down, end_flags}

-- the field CNT is the count
count-is : (n : ℕ) → n < 32 → bit_count n ≡ n
count-is n small = and_mask n 5 ∙ mod-eq_of_lt small

-- the bits above it are 0
above-is : (n : ℕ) → n < 32 → clear n USICNTx ≡ 0
above-is n small =
    let none : n / 32 % 8 * 32 ≡ 0 = omega arith in
    and_high n 3 5 ∙ none

-- 16B is 0
pub narrow : (n : ℕ) → n < 32 → off n USI16B ≡ true
narrow n small =
    let none : n / 64 % 2 * 64 ≡ 0 = omega arith in
    ap (λ (bits : ℕ). eqb bits 0) (and_high n 1 6 ∙ none)

-- CNT is above 0
pub counts : (n : ℕ) → suc n < 32 → counting (suc n) ≡ true
counts n small =
    ap not (ne_eqb (bit_count (suc n)) 0 (λ (e : bit_count (suc n) ≡ 0). omega (arith, count-is (suc n) small)))

-- CNT falls by 1
pub count-down : (n : ℕ) → suc n < 32 → count_down (suc n) ≡ n
count-down n small =
    let less : bit_count (suc n) - 1 ≡ n = omega (arith, count-is (suc n) small) in
    ap₂ bit_or (above-is (suc n) small) less

-- at 0, IFG=1
abbrev pub ended : ℕ → ℕ → ℕ
ended zero usictl1 = raise usictl1 USIIFG
ended (suc n) usictl1 = usictl1

pub end-flags : (usictl1 n : ℕ) → suc n < 32 → end_flags usictl1 (suc n) ≡ ended n usictl1
unfolding end_flags
end-flags usictl1 zero small = refl
end-flags usictl1 (suc n) small =
    ap (λ last. cond last (raise usictl1 USIIFG) usictl1)
    (ne_eqb (bit_count (suc (suc n))) 1
    (λ (e : bit_count (suc (suc n)) ≡ 1). omega (arith, count-is (suc (suc n)) small)))
