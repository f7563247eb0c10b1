-- Numbers that a word says, and counts.
use Rattle.std.specs.Prelude.{Bool, true, false, cond, List, ℕ, ◌+◌, ◌-◌, ◌^◌, ltb, length}
use Rattle.std.specs.Prelude.{Result, Ok, Err}
use Rattle.text.specs.declared.numbers.NotNumber.{NotNumber}
use Rattle.text.specs.declared.numbers.NotNumber.TheVariants.{TooLarge, Bad}
use Rattle.text.specs.Numbers.{number_in}

-- the largest number that 64 bits hold
abbrev pub largest : ℕ
largest = 2 ^ 64 - 1

-- the number that a word says, and the largest where it says none that fits
abbrev pub value_in : Result ℕ NotNumber → ℕ
value_in (Ok v) = v
value_in (Err why) = largest

-- whether a word says a number, also one that is too large
abbrev pub says_number : Result ℕ NotNumber → Bool
says_number (Ok v) = true
says_number (Err TooLarge) = true
says_number (Err Bad) = false

-- a byte in a word: one or two hexadecimal digits
unfoldable pub byte_in : List ℕ → Result ℕ NotNumber
byte_in word = cond (ltb 2 (length word)) (Err Bad) (number_in 16 word)

-- one more, up to the largest number
unfoldable pub one_more : ℕ → ℕ
one_more n = cond (ltb n largest) (n + 1) n
