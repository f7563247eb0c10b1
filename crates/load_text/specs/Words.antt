-- What the words of a file of loads say.
use Rattle.std.specs.Prelude.{Bool, false, cond, not, ◌&&◌, ◌||◌, List, ℕ, ◌+◌, eqb, leb, ltb, length, get_or, take, drop}
use Rattle.std.specs.Prelude.{Option, Some, None, Result}
use Rattle.laws.specs.Search.{first}
use Rattle.text.specs.declared.numbers.NotNumber.{NotNumber}
use Rattle.text.specs.Numbers.{number_in, between}
use Rattle.rig_lines.specs.Numbers.{value_in, says_number}

-- a number up to 255
unfoldable pub small_in : Result ℕ NotNumber → Option ℕ
small_in number = cond (ltb 255 (value_in number)) None (Some (value_in number))

-- a byte of a board: exactly two hexadecimal digits; in the old form one or two
unfoldable pub byte_in : List ℕ → Option ℕ
byte_in word = cond (eqb (length word) 2) (small_in (number_in 16 word)) None

unfoldable pub short_byte_in : List ℕ → Option ℕ
short_byte_in word = cond (ltb 2 (length word)) None (small_in (number_in 16 word))

-- an acknowledge: a decimal number up to 255
unfoldable pub acknowledge_in : List ℕ → Option ℕ
acknowledge_in word = small_in (number_in 10 word)

-- N/M: two decimal numbers with a `/` between
abbrev pub slash : ℕ → Bool
slash b = eqb b 47

unfoldable pub parts_from : Result ℕ NotNumber → Result ℕ NotNumber → Option (ℕ × ℕ)
parts_from one other =
    cond (says_number one && says_number other) (Some (value_in one, value_in other)) None

unfoldable pub parts_in : List ℕ → Option (ℕ × ℕ)
parts_in word =
    let end = first slash word in
    cond (eqb end (length word)) None
    (parts_from (number_in 10 (take end word)) (number_in 10 (drop (end + 1) word)))

abbrev pub letter : ℕ → Bool
letter b = between 65 90 b || between 97 122 b

abbrev pub one_or_two_digits : List ℕ → Bool
one_or_two_digits word = leb (length word) 2 && says_number (number_in 16 word)

-- a board's name: 1 to 16 bytes, the first a letter, and not one or two hexadecimal digits
unfoldable pub board_name : List ℕ → Bool
board_name word =
    cond (eqb (length word) 0) false
    (leb (length word) 16 && letter (get_or word 0 0) && not (one_or_two_digits word))

-- a load's name: 1 to 32 bytes
abbrev pub load_name : List ℕ → Bool
load_name word = not (eqb (length word) 0) && leb (length word) 32
