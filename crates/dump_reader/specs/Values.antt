-- The stamps and values: what each word makes of the reader, the lowest number at a tie.
use Rattle.std.specs.Prelude.{ℕ, Bool, true, false, cond, not, ◌&&◌, ◌||◌, List, eqb, leb, ltb, length, drop}
use Rattle.text.specs.Bytes.{ascii}
use Rattle.text.specs.Numbers.{number_in}
use Rattle.std.specs.Prelude.{Result, Ok, Err}
use Rattle.text.specs.declared.numbers.NotNumber.{NotNumber}
use Rattle.text.specs.declared.numbers.NotNumber.TheVariants.{TooLarge, Bad}
use Rattle.levels.specs.Levels as levels
use Rattle.trace.specs.Limits.{largest_stamp}
use Rattle.dump_reader.specs.declared.reader.Part as part
use Rattle.dump_reader.specs.declared.reader.Part.TheVariants as next
use Rattle.dump_reader.specs.declared.reader.Wave.{Wave}
use Rattle.dump_reader.specs.declared.reader.Reader.{Reader}
use Rattle.laws.specs.Same.{same}
use Rattle.dump_reader.specs.Words.{bytes_of, first_byte}
use Rattle.dump_reader.specs.Reader.{with_part, with_wave, refused_by}
use Rattle.dump_reader.specs.Definitions.{close}

-- a level byte with one line high or low
unfoldable pub with_line : ℕ → Bool → Bool → ℕ
with_line level scl high =
    cond scl (levels.level_of high (levels.sda level)) (levels.level_of (levels.scl level) high)

-- a value of SCL or of SDA: the later one wins
abbrev pub valued : Wave → Bool → Bool → Wave
valued wave scl high =
    record {
      stamped = wave.stamped;
      stamp = wave.stamp;
      known = with_line wave.known scl true;
      level = with_line wave.level scl high;
      shown = wave.shown;
    }

-- a stamp: what stands under the last one is complete, and its level is shown
abbrev pub stamped : Wave → ℕ → Wave
stamped wave stamp =
    record {
      stamped = true;
      stamp = stamp;
      known = wave.known;
      level = wave.level;
      shown = cond wave.stamped wave.level wave.shown;
    }

-- a value is missing under the first stamp
abbrev pub missing : Wave → Bool
missing wave = wave.stamped && not (eqb wave.known levels.max_level)

-- 21: not above the last; 24: a value is missing at the second; 25: above 32 bits; 27: inside a section
unfoldable pub judge : Reader → ℕ → Bool → Reader
judge reader stamp inside =
    cond (reader.wave.stamped && leb stamp reader.wave.stamp) (refused_by 21 reader)
    (cond (missing reader.wave) (refused_by 24 reader)
    (cond (ltb largest_stamp stamp) (refused_by 25 reader)
    (cond inside (refused_by 27 reader) (with_wave (stamped reader.wave stamp) reader))))

-- `#` and decimal digits, any number of them, else 27
abbrev pub read_stamp : Reader → Result ℕ NotNumber → Bool → Reader
read_stamp reader (Ok stamp) inside = judge reader stamp inside
read_stamp reader (Err TooLarge) inside = judge reader 18446744073709551615 inside
read_stamp reader (Err Bad) inside = refused_by 27 reader

-- 27: no identifier; 22: one that is not declared; 27: before any stamp
unfoldable pub assign : List ℕ → Reader → List ℕ → Bool → Reader
assign text reader identifier high =
    cond (eqb (length identifier) 0) (refused_by 27 reader)
    (cond (same identifier (bytes_of text reader.scl) || same identifier (bytes_of text reader.sda))
    (cond reader.wave.stamped
    (with_wave (valued reader.wave (same identifier (bytes_of text reader.scl)) high) reader)
    (refused_by 27 reader))
    (refused_by 22 reader))

-- 20: x or z, with an identifier; 27 without
unfoldable pub unknown : List ℕ → part.Part
unknown word = cond (ltb (length word) 2) (next.Refused 27) (next.Refused 20)

-- the commands that open a section
unfoldable pub dump : List ℕ → Bool
dump word =
    same word (ascii "$dumpvars")
    || same word (ascii "$dumpall")
    || same word (ascii "$dumpon")
    || same word (ascii "$dumpoff")

-- 24: `$var`; a section ends with `$end` and has no command; a comment is skipped; 27: any other word
unfoldable pub command : List ℕ → Bool → part.Part
command word inside =
    cond (same word (ascii "$var")) (next.Refused 24)
    (cond inside (close word next.Values)
    (cond (same word (ascii "$comment")) next.Comment
    (cond (dump word) next.Section (next.Refused 27))))

-- whether the first byte is x, X, z or Z
abbrev pub unknown_byte : ℕ → Bool
unknown_byte b = eqb b 0x78 || eqb b 0x58 || eqb b 0x7a || eqb b 0x5a

-- a word among the values, by its first byte
unfoldable pub change : List ℕ → Reader → List ℕ → Bool → Reader
change text reader word inside =
    cond (eqb (first_byte word) 0x23) (read_stamp reader (number_in 10 (drop 1 word)) inside)
    (cond (eqb (first_byte word) 0x30) (assign text reader (drop 1 word) false)
    (cond (eqb (first_byte word) 0x31) (assign text reader (drop 1 word) true)
    (cond (unknown_byte (first_byte word)) (with_part (unknown word) reader)
    (with_part (command word inside) reader))))
