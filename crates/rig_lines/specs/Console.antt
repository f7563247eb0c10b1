-- What is put on the page of output, and where the next line begins.
use Rattle.std.specs.Prelude.{cond, ◌||◌, List, [], ◌∷◌, ◌++◌, ℕ, ◌-◌, ◌%◌, eqb, ltb, length, get_or, take, drop, replicate}
use Rattle.text.specs.Output.{decimal_text, hex_text}
use Rattle.rig_lines.specs.Bytes.{ascii, control}

-- where the next line begins on a page of that size: at its start, once it is written out for want of room
unfoldable pub beginning : ℕ → ℕ → ℕ
beginning size at = cond (ltb (size - at) 4608) 0 at

-- so many spaces
abbrev pub spaces : ℕ → List ℕ
spaces n = replicate n 0x20

-- a text, and spaces up to a width
abbrev pub padded_text : ℕ → List ℕ → List ℕ
padded_text width text = text ++ spaces (width - length text)

-- a count of a thing: `1 load`, `2 loads`
unfoldable pub count_text : ℕ → List ℕ → List ℕ
count_text n thing =
    cond (eqb n 1) (decimal_text n ++ ascii " " ++ thing) (decimal_text n ++ ascii " " ++ thing ++ ascii "s")

-- a control byte is shown as `?`
unfoldable pub shown : ℕ → ℕ
shown b = cond (control b) 63 b

unfoldable pub shown_text : List ℕ → List ℕ
shown_text [] = []
shown_text (b ∷ word) = shown b ∷ shown_text word

-- a word in single quotes; of one longer than 32 bytes the first 32, and two full stops
unfoldable pub quoted_text : List ℕ → List ℕ
quoted_text word =
    cond (ltb 32 (length word))
    (ascii "'" ++ shown_text (take 32 word) ++ ascii "..'")
    (ascii "'" ++ shown_text word ++ ascii "'")

-- what a byte of a form stands for: `#` for a number in decimal, `%` for its last two hexadecimal digits
unfoldable pub form_byte : ℕ → ℕ → List ℕ
form_byte b n = cond (eqb b 35) (decimal_text n) (cond (eqb b 37) (hex_text 2 (n % 256)) (b ∷ []))

-- how many numbers a byte of a form takes
unfoldable pub marks : ℕ → ℕ
marks b = cond (eqb b 35 || eqb b 37) 1 0

-- a form: each mark stands for the next number, and for 0 where there is none
unfoldable pub form_text : List ℕ → List ℕ → List ℕ
form_text [] numbers = []
form_text (b ∷ words) numbers = form_byte b (get_or numbers 0 0) ++ form_text words (drop (marks b) numbers)
