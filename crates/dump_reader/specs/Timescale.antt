-- `$timescale`: 1, 10 or 100 and a unit, in one word or two; 27 at the first word that cannot stand there.
use Rattle.std.specs.Prelude.{ℕ, ◌*◌, cond, List, eqb, length, take, drop}
use Rattle.text.specs.Bytes.{ascii}
use Rattle.text.specs.Words.{run_length}
use Rattle.dump_reader.specs.declared.words.Run.TheVariants.{Digits}
use Rattle.dump_reader.specs.declared.reader.Part.TheVariants.{Unit, Close}
use Rattle.dump_reader.specs.declared.reader.Reader.{Reader}
use Rattle.laws.specs.Same.{same}
use Rattle.dump_reader.specs.Words.{belongs}
use Rattle.dump_reader.specs.Reader.{with_part, with_timescale, refused_by}

-- the power of ten that a number is, by its own digits; 3 for any other word
unfoldable pub power_of : List ℕ → ℕ
power_of word =
    cond (same word (ascii "1")) 0
    (cond (same word (ascii "10")) 1
    (cond (same word (ascii "100")) 2 3))

unfoldable pub number_of : ℕ → ℕ
number_of power = cond (eqb power 0) 1 (cond (eqb power 1) 10 100)

-- a unit in femtoseconds, 0 for any other word
unfoldable pub unit_of : List ℕ → ℕ
unit_of word =
    cond (same word (ascii "fs")) 1
    (cond (same word (ascii "ps")) 1000
    (cond (same word (ascii "ns")) 1000000
    (cond (same word (ascii "us")) 1000000000
    (cond (same word (ascii "ms")) 1000000000000
    (cond (same word (ascii "s")) 1000000000000000 0)))))

-- the unit after a number
unfoldable pub unit : Reader → ℕ → List ℕ → Reader
unit reader power word =
    cond (eqb (unit_of word) 0) (refused_by 27 reader)
    (with_part Close (with_timescale (number_of power * unit_of word) reader))

-- the number, which ends with its digits: the unit follows in the same word or is the next one
abbrev pub digits_of : List ℕ → ℕ
digits_of word = run_length (belongs Digits) word

unfoldable pub number : Reader → List ℕ → Reader
number reader word =
    cond (eqb (power_of (take (digits_of word) word)) 3) (refused_by 27 reader)
    (cond (eqb (digits_of word) (length word))
    (with_part (Unit (power_of (take (digits_of word) word))) reader)
    (unit reader (power_of (take (digits_of word) word)) (drop (digits_of word) word)))
