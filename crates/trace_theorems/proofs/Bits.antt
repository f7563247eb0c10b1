-- The nine bits that are drawn for a byte's event make its number again: one law over the width.
use Prim.Native.Nat.{ℕ, zero, suc, ◌+◌, ◌*◌, ◌/◌, ◌%◌, ◌^◌, ◌<◌}
use native.Mathlib.Nat.{add_assoc, mod-lt, pow-suc, mul_comm, mul_assoc, mul_left_comm, add-mul}
use native.Mathlib.Omega.{arith}
use mathlib.Core.Path.{◌≡◌, ◌∙◌}
use mathlib.Core.Bool.{Bool}
use mathlib.Core.List.{List, [], ◌∷◌}
use mir.Val.{bool_byte}
use lib.Arith.{mod-mul}
use lib.Pow.{pow_pos}
use Rattle.trace.specs.Events.{byte_event}
use Rattle.bits.specs.Positions.{is_set}
use Rattle.laws.proofs.Bools.{bit-digit}
use Rattle.encode.specs.Encode.{bits_below, byte_bits}

-- the number that bits make, first bit highest, after a value
abbrev pub number_from : ℕ → List Bool → ℕ
number_from value [] = value
number_from value (bit ∷ bits) = number_from (2 * value + bool_byte bit) bits

set-digit : (position number : ℕ) → bool_byte (is_set position number) ≡ number / 2 ^ position % 2
set-digit position number = bit-digit (number / 2 ^ position % 2) (mod-lt (number / 2 ^ position) (omega arith))

-- after a value, a number's lowest bits make the value shifted up by the width, plus the number's lowest digits
pub number-of-bits : (width value number : ℕ)
    → number_from value (bits_below width number) ≡ value * 2 ^ width + number % 2 ^ width
number-of-bits zero value number = omega arith
number-of-bits (suc width) value number =
    let power : 2 ^ suc width ≡ 2 * 2 ^ width = pow-suc 2 width ∙ mul_comm (2 ^ width) 2 in
    number-of-bits width (2 * value + bool_byte (is_set width number)) number
    ∙ rw (
      power,
      set-digit width number,
      mod-mul number {m = 2} {c = 2 ^ width} (omega arith) (pow_pos width),
      add-mul,
      mul_assoc 2 value,
      mul_left_comm value 2,
      add_assoc,
    )

-- an event below 512 is read back from its bits
pub event-of-bits : (event : ℕ) → event < 512 → byte_event (number_from 0 (byte_bits event)) (is_set 8 event) ≡ event
unfolding byte_bits
event-of-bits event small =
    let low : number_from 0 (byte_bits event) ≡ 0 * 256 + event % 256 = number-of-bits 8 0 event in
    let ninth : bool_byte (is_set 8 event) ≡ event / 256 % 2 = set-digit 8 event in
    omega (arith, low, ninth)
