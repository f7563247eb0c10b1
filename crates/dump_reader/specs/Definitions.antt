-- The definitions: what may stand after each word, in the order of 02 and the standard.
use Rattle.std.specs.Prelude.{ℕ, Bool, cond, not, ◌&&◌, ◌||◌, List, eqb, ltb, length, Result, Ok, Err}
use Rattle.text.specs.Bytes.{ascii}
use Rattle.text.specs.Words.{run_length}
use Rattle.text.specs.Numbers.{number_in}
use Rattle.text.specs.declared.numbers.NotNumber.{NotNumber}
use Rattle.dump_reader.specs.declared.words.Run.TheVariants.{Graphic}
use Rattle.dump_reader.specs.declared.words.Word.{Word}
use Rattle.dump_reader.specs.declared.reader.Part as part
use Rattle.dump_reader.specs.declared.reader.Part.TheVariants as next
use Rattle.dump_reader.specs.declared.reader.Reader.{Reader}
use Rattle.laws.specs.Same.{same}
use Rattle.dump_reader.specs.Words.{belongs, bytes_of, begins}
use Rattle.dump_reader.specs.Reader.{with_part, with_scl, with_sda, refused_by}

-- `$end` must stand here, else 27
unfoldable pub close : List ℕ → part.Part → part.Part
close word after = cond (same word (ascii "$end")) after (next.Refused 27)

-- everything up to `$end` is skipped
unfoldable pub skip : List ℕ → part.Part → part.Part → part.Part
skip word here after = cond (same word (ascii "$end")) after here

-- a name is a word that does not begin with `$`, else 27
unfoldable pub name : List ℕ → part.Part → part.Part
name word after = cond (begins word) (next.Refused 27) after

-- `$date`, `$version` and `$comment`
unfoldable pub note : List ℕ → Bool
note word = same word (ascii "$date") || same word (ascii "$version") || same word (ascii "$comment")

-- 24: a third `$var`
unfoldable pub wire : ℕ → part.Part
wire wires = cond (ltb wires 2) next.WireType (next.Refused 24)

-- 24: `$enddefinitions` with fewer than two wires
unfoldable pub opening : ℕ → part.Part
opening wires = cond (ltb wires 2) (next.Refused 24) next.Opening

-- a command of the definitions; 27 for any other word
unfoldable pub command : List ℕ → ℕ → part.Part
command word wires =
    cond (note word) next.Note
    (cond (same word (ascii "$timescale")) next.Number
    (cond (same word (ascii "$scope")) next.ScopeType
    (cond (same word (ascii "$upscope")) next.Close
    (cond (same word (ascii "$var")) (wire wires)
    (cond (same word (ascii "$enddefinitions")) (opening wires) (next.Refused 27))))))

-- the types of a scope, else 27
unfoldable pub scope : List ℕ → Bool
scope word =
    same word (ascii "begin")
    || same word (ascii "fork")
    || same word (ascii "function")
    || same word (ascii "module")
    || same word (ascii "task")

unfoldable pub scope_type : List ℕ → part.Part
scope_type word = cond (scope word) next.ScopeName (next.Refused 27)

-- 24: a type other than `wire`
unfoldable pub wire_type : List ℕ → part.Part
wire_type word = cond (same word (ascii "wire")) next.WireSize (next.Refused 24)

-- 24: a size that is not the number 1
unfoldable pub one : ℕ → part.Part
one size = cond (eqb size 1) next.Identifier (next.Refused 24)

abbrev pub sized : Result ℕ NotNumber → part.Part
sized (Ok size) = one size
sized (Err why) = next.Refused 24

abbrev pub wire_size : List ℕ → part.Part
wire_size word = sized (number_in 10 word)

-- an identifier: bytes 21h to 7Eh, and not `$end`
unfoldable pub identifier : List ℕ → Bool
identifier word = not (same word (ascii "$end")) && eqb (run_length (belongs Graphic) word) (length word)

-- 27: no identifier; 24: one that is used before
unfoldable pub declare : List ℕ → Reader → Word → Reader
declare text reader word =
    cond (identifier (bytes_of text word))
    (cond (eqb reader.wires 0)
    (with_part next.Name (with_scl word reader))
    (cond (same (bytes_of text word) (bytes_of text reader.scl))
    (refused_by 24 reader)
    (with_part next.Name (with_sda word reader))))
    (refused_by 27 reader)

-- further words of a wire's name, up to `$end`
unfoldable pub names : List ℕ → part.Part
names word = cond (same word (ascii "$end")) next.Definitions (name word next.Names)
