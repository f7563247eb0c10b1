-- Eight bits at most are pending, and their value fits that many: so it is at the start, and after each sample.
use mathlib.Core.Path.{◌≡◌, refl}
use mathlib.Core.Bool.{Bool, true, false, cond}
use Prim.Native.Nat.{ℕ, ◌*◌, ◌/◌, ◌≤◌, ◌<◌, ◌^◌}
use native.Mathlib.Nat.{pow-succ', pow-le-pow_right, div-lt_iff_lt-mul}
use native.Mathlib.Numerals.{add-one}
use native.Mathlib.Omega.{arith}
use lib.Dec.{eqb, leb}
use lib.Pow.{pow_pos}
use borrow.Author.Tests.{eqb-true, eqb-false, leb-true}
use Rattle.decode.specs.declared.Decoder.{Decoder}
use Rattle.levels.specs.Levels.{starts, stops}
use Rattle.decode.specs.Decode.{idle, takes, bit, ninth, conditioned, with_bit, next}
use Rattle.decode.specs.Stepping.{Sound, is_sound}
use Rattle.laws.proofs.Bools.{both}
use Rattle.laws.proofs.Bools.{bool-byte}

-- fewer than eight bits leave room for one more in a byte
pub below-128 : (decoder : Decoder) → decoder.pending < 8 → Sound decoder → decoder.value < 128
below-128 decoder fewer sound =
    let few : decoder.pending ≤ 7 = omega arith in
    let bound : 2 ^ decoder.pending ≤ 2 ^ 7 = pow-le-pow_right {n = 2} (omega arith) few in
    omega (arith, bound)

-- what the test says
pub sound-is : (decoder : Decoder) → is_sound decoder ≡ true → Sound decoder
sound-is decoder passes =
    let two = both (leb decoder.pending 8) (eqb (decoder.value / 2 ^ decoder.pending) 0) passes in
    record {
      few = leb-true decoder.pending 8 two.0;
      small = lt-of-div decoder.value decoder.pending (eqb-true (decoder.value / 2 ^ decoder.pending) 0
          two.1);
    }
  where
    lt-of-div : (value bits : ℕ) → value / 2 ^ bits ≡ 0 → value < 2 ^ bits
    lt-of-div value bits none =
        let small : value / 2 ^ bits < 1 = omega arith in
        let less : value < 1 * 2 ^ bits = (div-lt_iff_lt-mul (pow_pos bits)).0 small in
        omega (arith, less)

pub idle-sound : Sound idle
idle-sound = record { few = omega arith; small = omega arith }

either : (b : Bool) (one other : Decoder) → Sound one → Sound other → Sound (cond b one other)
either true one other p q = p
either false one other p q = q

conditioned-sound : (framed : Bool) (level : ℕ) → Sound (conditioned framed level)
conditioned-sound framed level = record { few = omega arith; small = omega arith }

with-bit-sound : (decoder : Decoder) (level : ℕ) → Sound decoder → Sound (with_bit decoder level)
unfolding with_bit
with-bit-sound decoder level sound = by-ninth (ninth decoder) refl
  where
    by-ninth : (b : Bool) → ninth decoder ≡ b → Sound (with_bit decoder level)
    by-ninth true e = rw e (record { few = omega arith; small = omega arith })
    by-ninth false e =
        rw e
        (record {
          few = omega (arith, eqb-false decoder.pending 8 e, sound.few);
          small = rw (add-one, pow-succ' 2 decoder.pending) (omega (arith, sound.small, bool-byte (bit decoder)));
        })

pub next-sound : (decoder : Decoder) (level : ℕ) → Sound decoder → Sound (next decoder level)
unfolding next
next-sound decoder level sound =
    either (starts decoder.last level) _ _ (conditioned-sound true level)
    (either (stops decoder.last level) _ _ (conditioned-sound false level)
    (either (takes decoder level) _ _ (with-bit-sound decoder level sound)
    (record { few = sound.few; small = sound.small })))
