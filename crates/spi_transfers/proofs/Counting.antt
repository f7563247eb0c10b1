-- CNT and IFG as bits are counted down: one less, and IFG=1 where nothing is left.
use Prim.Native.Nat.{ℕ, suc, ◌-◌, ◌<◌}
use mathlib.Core.Path.{◌≡◌, refl, ◌∙◌, ap}
use mathlib.Core.Bool.{Bool, true, false, not, ◌||◌}
use native.Mathlib.Omega.{arith}
use lib.Dec.{eqb, ltb}
use borrow.Author.Tests.{eqb-true, ne_eqb, eq-eqb, ltb-true}
use Rattle.laws.proofs.Search.{all-below}
use Rattle.bits.specs.Positions.{is_set, on, raise}
use Rattle.bits.proofs.Masks.{on_bit, is_set-or}
use Rattle.usi_registers.specs.Registers.{USIIFG}
use Rattle.usi_registers.specs.Rules.{bit_count, counting}
use Rattle.usi_i2c.specs.Rules.{count_down, end_flags}

pub one_less : (usicnt : ℕ) → usicnt < 256 → bit_count (count_down usicnt) ≡ bit_count usicnt - 1
one_less usicnt byte =
    eqb-true (bit_count (count_down usicnt)) (bit_count usicnt - 1)
    (all-below (λ (x : ℕ). eqb (bit_count (count_down x)) (bit_count x - 1)) 256 refl usicnt byte)

pub still-byte : (usicnt : ℕ) → usicnt < 256 → count_down usicnt < 256
still-byte usicnt byte = ltb-true _ _ (all-below (λ (x : ℕ). ltb (count_down x) 256) 256 refl usicnt byte)

-- CNT above 0, as a number
pub counts : (usicnt k : ℕ) → bit_count usicnt ≡ suc k → counting usicnt ≡ true
counts usicnt k e = ap not (ne_eqb (bit_count usicnt) 0 (λ (z : bit_count usicnt ≡ 0). omega (arith, e, z)))

-- the last bit raises IFG, and nothing lowers it
raised : (usictl1 : ℕ) → on (raise usictl1 USIIFG) USIIFG ≡ true
raised usictl1 = on_bit (raise usictl1 USIIFG) 0 ∙ is_set-or 0 usictl1 USIIFG ∙ either (is_set 0 usictl1)
  where
    either : (b : Bool) → b || true ≡ true
    either true = refl
    either false = refl

pub flag-at-end : (usictl1 usicnt : ℕ) → usicnt < 256 → (k : ℕ) → bit_count usicnt ≡ suc k
    → bit_count (count_down usicnt) ≡ 0 → on (end_flags usictl1 usicnt) USIIFG ≡ true
unfolding end_flags
flag-at-end usictl1 usicnt byte k e none =
    let last : bit_count usicnt ≡ 1 = omega (arith, e, none, one_less usicnt byte) in
    rw (eq-eqb (bit_count usicnt) 1 last) (raised usictl1)
