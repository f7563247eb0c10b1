-- The shift register of a serial module, over its width and its direction (02: Asks 1 and 7). Its bits stand at
-- positions top down to 0, so it is 1 + top bits wide.
use Rattle.std.specs.Prelude.{ℕ, zero, suc, ◌+◌, ◌-◌, ◌*◌, ◌/◌, ◌%◌, ◌^◌, Bool, cond, List, [], ◌∷◌, take, drop}
use mir.Val.{bool_byte}
use Rattle.bits.specs.Positions.{is_set}

-- 16B: 16 bits, else 8
abbrev pub top_of : Bool → ℕ
top_of wide = cond wide 15 7

-- the bit that leaves next: the highest, with LSB=1 the lowest
abbrev pub outgoing : ℕ → Bool → ℕ → Bool
outgoing top lsb register = is_set (cond lsb 0 top) register

-- one shift towards the end that the bits leave by; a bit enters at the other end
abbrev pub shifted : ℕ → Bool → Bool → ℕ → ℕ
shifted top lsb entering register =
    cond lsb (register % 2 ^ suc top / 2 + bool_byte entering * 2 ^ top) (register % 2 ^ top * 2 + bool_byte entering)

-- the lowest n bits: from position n - 1 down, and from position 0 up
unfoldable pub downwards : ℕ → ℕ → List Bool
downwards zero register = []
downwards (suc n) register = is_set n register ∷ downwards n register

unfoldable pub upwards : ℕ → ℕ → List Bool
upwards zero register = []
upwards (suc n) register = is_set 0 register ∷ upwards n (register / 2)

-- the register's bits in the order in which they leave
abbrev pub in_order : ℕ → Bool → ℕ → List Bool
in_order top lsb register = cond lsb (upwards (suc top) register) (downwards (suc top) register)

-- the n bits that leave first, and the n that entered last, in the order in which they came
abbrev pub first_sent : ℕ → ℕ → Bool → ℕ → List Bool
first_sent n top lsb register = take n (in_order top lsb register)

abbrev pub newest : ℕ → ℕ → Bool → ℕ → List Bool
newest n top lsb register = drop (suc top - n) (in_order top lsb register)

-- shifts one after another: the register after them, and the bits that left
unfoldable pub shifted_by : ℕ → Bool → List Bool → ℕ → ℕ
shifted_by top lsb [] register = register
shifted_by top lsb (b ∷ bits) register = shifted_by top lsb bits (shifted top lsb b register)

unfoldable pub sent_by : ℕ → Bool → List Bool → ℕ → List Bool
sent_by top lsb [] register = []
sent_by top lsb (b ∷ bits) register = outgoing top lsb register ∷ sent_by top lsb bits (shifted top lsb b register)
