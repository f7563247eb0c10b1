-- Packing and unpacking are inverse: a module of bytes is its number unpacked, and a number is its module packed but for
-- the bits above 54, which hold nothing of a module.
use mathlib.Core.Path.{◌≡◌, ◌∙◌}
use mathlib.Core.Bool.{Bool, true, false}
use Prim.Native.Nat.{ℕ, ◌+◌, ◌*◌, ◌/◌, ◌%◌, ◌^◌, ◌<◌}
use native.Mathlib.Omega.{arith}
use mir.Val.{bool_byte}
use lib.Dec.{eqb}
use borrow.Author.Tests.{eq-eqb, ne_eqb}
use Rattle.bits.specs.Positions.{digit, is_set}
use Rattle.laws.proofs.Bools.{bit-digit, bool-byte}
use Rattle.usi.specs.declared.Usi.{Usi}
use Rattle.export.specs.Packed.{Bytes, byte_at, unpacked, registers, hidden, packed}

-- a digit that is a bit
bit-back : (b : Bool) (d : ℕ) → d ≡ bool_byte b → eqb d 1 ≡ b
bit-back true d is = eq-eqb d 1 is
bit-back false d is = ne_eqb d 1 (λ one. omega arith)

module _ (u : Usi) (small : Bytes u) where
  low : registers u < 256 ^ 6
  low = omega (arith, small.usictl0, small.usictl1, small.usickctl, small.usicnt, small.usisrl, small.usisrh)

  abbrev bits : ℕ
  bits = hidden u

  -- the registers lie below the hidden state
  register-bytes : (packed u % 256 ≡ u.usictl0) × (byte_at 1 (packed u) ≡ u.usictl1)
      × (byte_at 2 (packed u) ≡ u.usickctl) × (byte_at 3 (packed u) ≡ u.usicnt) × (byte_at 4 (packed u) ≡ u.usisrl)
      × (byte_at 5 (packed u) ≡ u.usisrh)
  register-bytes =
      omega (arith, small.usictl0, small.usictl1, small.usickctl, small.usicnt, small.usisrl, small.usisrh)

  hidden-is : packed u / 2 ^ 48 ≡ hidden u
  hidden-is = omega (arith, low)

  hidden-bits : (digit 48 (packed u) ≡ bool_byte u.latch) × (digit 49 (packed u) ≡ bool_byte u.enable)
      × (digit 50 (packed u) ≡ bool_byte u.phase) × (digit 51 (packed u) ≡ bool_byte u.seen)
      × (digit 52 (packed u) ≡ bool_byte u.scl) × (digit 53 (packed u) ≡ bool_byte u.sda)
      × (digit 54 (packed u) ≡ bool_byte u.stretch)
  hidden-bits =
      omega (
        arith,
        low,
        bool-byte u.latch,
        bool-byte u.enable,
        bool-byte u.phase,
        bool-byte u.seen,
        bool-byte u.scl,
        bool-byte u.sda,
        bool-byte u.stretch,
      )

  pub packed-back : unpacked (packed u) ≡ u
  packed-back = λ i.
      record {
        usictl0 = register-bytes.0 i;
        usictl1 = register-bytes.1 i;
        usickctl = register-bytes.2 i;
        usicnt = register-bytes.3 i;
        usisrl = register-bytes.4 i;
        usisrh = register-bytes.5 i;
        latch = bit-back u.latch (digit 48 (packed u)) hidden-bits.0 i;
        enable = bit-back u.enable (digit 49 (packed u)) hidden-bits.1 i;
        phase = bit-back u.phase (digit 50 (packed u)) hidden-bits.2 i;
        seen = bit-back u.seen (digit 51 (packed u)) hidden-bits.3 i;
        scl = bit-back u.scl (digit 52 (packed u)) hidden-bits.4 i;
        sda = bit-back u.sda (digit 53 (packed u)) hidden-bits.5 i;
        stretch = bit-back u.stretch (digit 54 (packed u)) hidden-bits.6 i;
      }

-- the digits of a number make up its lowest bits, one more at a time
more-bits : (x : ℕ)
    → (x % 2 + 2 * (x / 2 % 2) ≡ x % 4) × (x % 4 + 4 * (x / 4 % 2) ≡ x % 8) × (x % 8 + 8 * (x / 8 % 2) ≡ x % 16)
    × (x % 16 + 16 * (x / 16 % 2) ≡ x % 32) × (x % 32 + 32 * (x / 32 % 2) ≡ x % 64)
    × (x % 64 + 64 * (x / 64 % 2) ≡ x % 128)
more-bits x = omega arith

module _ (number : ℕ) where
  abbrev high : ℕ
  high = number / 2 ^ 48

  bit-of : (position : ℕ) → digit position number < 2 → bool_byte (is_set position number) ≡ digit position number
  bit-of position small = bit-digit (digit position number) small

  hidden-back : hidden (unpacked number) ≡ high % 2 ^ 7
  hidden-back =
      rw (
        bit-of 48 (omega arith),
        bit-of 49 (omega arith) ∙ at_1,
        bit-of 50 (omega arith) ∙ at-2,
        bit-of 51 (omega arith) ∙ at-3,
        bit-of 52 (omega arith) ∙ at-4,
        bit-of 53 (omega arith) ∙ at_5,
        bit-of 54 (omega arith) ∙ at-6,
      )
      (let m = more-bits high in rw (m.0, m.1, m.2, m.3, m.4, m.5))
    where
      at_1 : digit 49 number ≡ high / 2 % 2
      at_1 = omega arith

      at-2 : digit 50 number ≡ high / 4 % 2
      at-2 = omega arith

      at-3 : digit 51 number ≡ high / 8 % 2
      at-3 = omega arith

      at-4 : digit 52 number ≡ high / 16 % 2
      at-4 = omega arith

      at_5 : digit 53 number ≡ high / 32 % 2
      at_5 = omega arith

      at-6 : digit 54 number ≡ high / 64 % 2
      at-6 = omega arith

  -- and its bytes its lowest bytes
  two : number % 256 + 256 * byte_at 1 number ≡ number % 256 ^ 2
  two = omega arith

  three : number % 256 ^ 2 + 256 ^ 2 * byte_at 2 number ≡ number % 256 ^ 3
  three = omega arith

  four : number % 256 ^ 3 + 256 ^ 3 * byte_at 3 number ≡ number % 256 ^ 4
  four = omega arith

  five : number % 256 ^ 4 + 256 ^ 4 * byte_at 4 number ≡ number % 256 ^ 5
  five = omega arith

  six : number % 256 ^ 5 + 256 ^ 5 * byte_at 5 number ≡ number % 256 ^ 6
  six = omega arith

  all : number % 256 ^ 6 + 256 ^ 6 * (high % 2 ^ 7) ≡ number % 2 ^ 55
  all = omega arith

  pub unpacked-back : packed (unpacked number) ≡ number % 2 ^ 55
  unpacked-back = rw hidden-back (rw (two, three, four, five, six) all)
