-- What a word says when it is read as a number.
use Rattle.std.specs.Prelude.{Bool, true, cond, ◌&&◌, List, [], ◌∷◌, ℕ, ◌+◌, ◌-◌, ◌*◌, ◌^◌, leb, ltb, length}
use Rattle.std.specs.Prelude.{Option, Some, None, Result, Ok, Err}
use Rattle.text.specs.declared.numbers.NotNumber.{NotNumber}
use Rattle.text.specs.declared.numbers.NotNumber.TheVariants.{TooLarge, Bad}

-- whether a byte lies from one to another
abbrev pub between : ℕ → ℕ → ℕ → Bool
between low high b = leb low b && leb b high

-- the value of a hexadecimal digit, `0` to `9`, `A` to `F`, `a` to `f`, and 16 for any other byte
unfoldable pub digit_value : ℕ → ℕ
digit_value b =
    cond (between 48 57 b) (b - 48)
    (cond (between 65 70 b) (b - 65 + 10)
    (cond (between 97 102 b) (b - 97 + 10) 16))

-- the same, where there is one
unfoldable pub digit_in : ℕ → Option ℕ
digit_in b =
    cond (between 48 57 b) (Some (b - 48))
    (cond (between 65 70 b) (Some (b - 65 + 10))
    (cond (between 97 102 b) (Some (b - 97 + 10)) None))

-- every byte is a digit of the base
unfoldable pub all_digits : ℕ → List ℕ → Bool
all_digits base [] = true
all_digits base (b ∷ bs) = ltb (digit_value b) base && all_digits base bs

-- the number that digits spell in a base after those that spell v, the most significant first
unfoldable pub value_after : ℕ → ℕ → List ℕ → ℕ
value_after base v [] = v
value_after base v (b ∷ bs) = value_after base (v * base + digit_value b) bs

abbrev pub value_of : ℕ → List ℕ → ℕ
value_of base word = value_after base 0 word

-- a number that 64 bits hold, or none
unfoldable pub fitting : ℕ → Result ℕ NotNumber
fitting v = cond (ltb v (2 ^ 64)) (Ok v) (Err TooLarge)

-- a word read in a base: at least one byte, digits only
unfoldable pub number_in : ℕ → List ℕ → Result ℕ NotNumber
number_in base word = cond (ltb 0 (length word) && all_digits base word) (fitting (value_of base word)) (Err Bad)
