-- The bits of a byte taken so far, by the instant that comes next: what is taken stays below 256.
use Prim.Native.Nat.{ℕ, zero, suc, ◌+◌, ◌-◌, ◌*◌, ◌/◌, ◌<◌, ◌≤◌}
use mathlib.Core.Path.{◌≡◌, refl}
use mathlib.Core.Bool.{Bool, true, cond, ◌&&◌}
use native.Mathlib.Omega.{arith}
use borrow.Author.Tests.{eqb-true, leb-true}
use lib.Dec.{eqb, ltb, leb}
use Rattle.bits.specs.Positions.{shift_in}
use Rattle.levels.specs.Levels.{sda}
use Rattle.laws.proofs.Bools.{both, bool-byte}
use Rattle.laws.proofs.Search.{all-below}
use Rattle.arbitration_pass.specs.declared.instants.Effect.{Effect}
use Rattle.arbitration_pass.specs.declared.instants.Effect.TheVariants.{Nothing, Begin, Release, Acknowledge, Record}
use Rattle.arbitration_pass.specs.declared.instants.Effect.TheVariants.{Bit, Settle}
use Rattle.arbitration_pass.specs.declared.instants.Part.{Part}
use Rattle.arbitration_pass.specs.declared.instants.Part.TheVariants.{Entry, Opening, Restart, Byte, Closing}
use Rattle.arbitration_run.specs.declared.wire.Wire.{Wire}
use Rattle.arbitration_pass.specs.Instants.{byte}
use Rattle.arbitration_run.specs.Wire as wires

-- a number of so many bits is below this
abbrev pub bound : ℕ → ℕ
bound zero = 1
bound (suc bits) = 2 * bound bits

-- how many bits are taken at most, before an instant of a byte; before it is loaded the last one's eight
abbrev pub bits : ℕ → ℕ
bits at = cond (eqb at 0) 8 (cond (ltb at 25) ((at - 1) / 3) 8)

abbrev pub bits_of : Part → ℕ → ℕ
bits_of Entry at = 8
bits_of Opening at = 8
bits_of Restart at = 8
bits_of Byte at = bits at
bits_of Closing at = 8

-- what an effect says of the bits before it and after it
abbrev pub step_test : Effect → ℕ → Bool
step_test Nothing at = leb (bound (bits at)) (bound (bits (suc at)))
step_test Begin at = eqb at 0
step_test Release at = leb (bound (bits at)) (bound (bits (suc at)))
step_test Acknowledge at = leb (bound (bits at)) (bound (bits (suc at)))
step_test Record at = leb (bound (bits at)) (bound (bits (suc at)))
step_test (Bit bit) at = eqb (bits (suc at)) (suc (bits at)) && leb (bound (bits at)) 128
step_test Settle at = leb (bound (bits at)) (bound (bits (suc at)))

pub steps : (at : ℕ) → at < 29 → step_test (byte at).effect at ≡ true
steps at less = all-below (λ (k : ℕ). step_test (byte k).effect k) 29 refl at less

pub bits_fit : (at : ℕ) → at ≤ 28 → leb (bound (bits at)) 256 ≡ true
bits_fit at within = all-below (λ (k : ℕ). leb (bound (bits k)) 256) 29 refl at (omega (arith, within))

bound_some : (count : ℕ) → 1 ≤ bound count
bound_some zero = omega arith
bound_some (suc count) = omega (arith, bound_some count)

shifted : (value : ℕ) (low : Bool) → shift_in value low ≤ 2 * value + 1
shifted value low = omega (arith, bool-byte low)

module _ (room : ℕ) (acknowledge : Bool) (wire : Wire) (at : ℕ) where
  pub byte-after : (effect : Effect) → step_test effect at ≡ true → wire.byte < bound (bits at)
      → (wires.affected room effect acknowledge wire).byte < bound (bits (suc at))
  byte-after Nothing test small = omega (arith, leb-true (bound (bits at)) (bound (bits (suc at))) test)
  byte-after Begin test small = bound_some (bits (suc at))
  byte-after Release test small = omega (arith, leb-true (bound (bits at)) (bound (bits (suc at))) test)
  byte-after Acknowledge test small = omega (arith, leb-true (bound (bits at)) (bound (bits (suc at))) test)
  byte-after Record test small = omega (arith, leb-true (bound (bits at)) (bound (bits (suc at))) test)
  byte-after (Bit bit) test small =
      let two = both (eqb (bits (suc at)) (suc (bits at))) (leb (bound (bits at)) 128) test in
      let more : bits (suc at) ≡ suc (bits at) = eqb-true (bits (suc at)) (suc (bits at)) two.0 in
      rw more (omega (arith, small, shifted wire.byte (sda wire.level)))
  byte-after Settle test small = omega (arith, leb-true (bound (bits at)) (bound (bits (suc at))) test)

  -- at any instant a byte stays one
  pub byte_fits : (effect : Effect) → wire.byte < 256 → (wires.affected room effect acknowledge wire).byte < 256
  byte_fits Nothing small = small
  byte_fits Begin small = omega arith
  byte_fits Release small = small
  byte_fits Acknowledge small = small
  byte_fits Record small = small
  byte_fits (Bit bit) small = omega (arith, bool-byte (sda wire.level))
  byte_fits Settle small = small

-- before a bit is taken there is room for it
pub bit-small : (bit at value : ℕ) → step_test (Bit bit) at ≡ true → value < bound (bits at) → value < 128
bit-small bit at value test small =
    let two = both (eqb (bits (suc at)) (suc (bits at))) (leb (bound (bits at)) 128) test in
    omega (arith, leb-true (bound (bits at)) 128 two.1)
