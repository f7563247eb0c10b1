-- Bits of a number by their position (0 is the least significant), and the masks that select them.
use Rattle.std.specs.Prelude.{ℕ, ◌+◌, ◌-◌, ◌*◌, ◌/◌, ◌%◌, ◌^◌, Bool, eqb}
use Rattle.std.specs.Int.Bits.{bit_and, bit_or}
use mir.Val.{bool_byte}

-- the digit at a position: 0 or 1
abbrev pub digit : ℕ → ℕ → ℕ
digit position x = x / 2 ^ position % 2

-- the bit at a position is 1
abbrev pub is_set : ℕ → ℕ → Bool
is_set position x = eqb (digit position x) 1

-- the number in the width bits whose lowest is at a position
abbrev pub field : ℕ → ℕ → ℕ → ℕ
field position width x = x / 2 ^ position % 2 ^ width

-- the mask of one bit
abbrev pub bit : ℕ → ℕ
bit position = 2 ^ position

-- the mask of the lowest width bits
abbrev pub lowest : ℕ → ℕ
lowest width = 2 ^ width - 1

-- every bit of the mask is 1; every bit of it is 0
abbrev pub on : ℕ → ℕ → Bool
on x mask = eqb (bit_and x mask) mask

abbrev pub off : ℕ → ℕ → Bool
off x mask = eqb (bit_and x mask) 0

-- a byte with the bits of the mask set to 1; set to 0
abbrev pub raise : ℕ → ℕ → ℕ
raise x mask = bit_or x mask

abbrev pub clear : ℕ → ℕ → ℕ
clear x mask = bit_and x (255 - mask)

-- a byte shifted left by one, with a bit entering at position 0
abbrev pub shift_in : ℕ → Bool → ℕ
shift_in x low = x * 2 % 256 + bool_byte low
