-- What read answers, refusals in their order, and what the lent slices hold after it.
use Rattle.std.specs.Prelude.{ℕ, ◌-◌, Bool, true, false, cond, not, ◌&&◌, ◌||◌, List, [], ◌∷◌, ◌++◌, eqb, ltb, length, get_or}
use Rattle.std.specs.Prelude.{Result, Ok, Err, Option, None, Some}
use Rattle.laws.specs.Buffer.{filled}
use Rattle.laws.specs.declared.Refusal.{Refusal}
use Rattle.laws.specs.Refusals.{Check, check, check_at, answer}
use Rattle.levels.specs.Levels.{max_level}
use Rattle.trace.specs.Limits.{max_samples}
use Rattle.dump_reader.specs.declared.reader.Part as part
use Rattle.dump_reader.specs.declared.reader.Part.TheVariants as next
use Rattle.dump_reader.specs.declared.reader.Reader.{Reader}
use Rattle.dump_reader.specs.declared.DumpRead.{DumpRead}
use Rattle.dump_reader.specs.Reading.{final, stamps_in, levels_in}

-- the longest text
abbrev pub longest_text : ℕ
longest_text = 60000

-- the last byte is a newline, or there is none
abbrev pub closed : List ℕ → Bool
closed text = cond (eqb (length text) 0) true (eqb (get_or text (length text - 1) 0) 0x0a)

-- a text may end between commands, and outside a section
abbrev pub may_end : part.Part → Bool
may_end next.Definitions = true
may_end next.Note = false
may_end next.Number = false
may_end (next.Unit power) = false
may_end next.Close = false
may_end next.ScopeType = false
may_end next.ScopeName = false
may_end next.WireType = false
may_end next.WireSize = false
may_end next.Identifier = false
may_end next.Name = false
may_end next.Names = false
may_end next.Opening = false
may_end next.Values = true
may_end next.Section = false
may_end next.Comment = false
may_end (next.Refused number) = false

-- the number that a word was refused with, 0 where none was
abbrev pub refusal_of : part.Part → ℕ
refusal_of next.Definitions = 0
refusal_of next.Note = 0
refusal_of next.Number = 0
refusal_of (next.Unit power) = 0
refusal_of next.Close = 0
refusal_of next.ScopeType = 0
refusal_of next.ScopeName = 0
refusal_of next.WireType = 0
refusal_of next.WireSize = 0
refusal_of next.Identifier = 0
refusal_of next.Name = 0
refusal_of next.Names = 0
refusal_of next.Opening = 0
refusal_of next.Values = 0
refusal_of next.Section = 0
refusal_of next.Comment = 0
refusal_of (next.Refused number) = number

-- that number, if a word was refused
abbrev pub refused_word : part.Part → Option ℕ
refused_word part = cond (eqb (refusal_of part) 0) None (Some (refusal_of part))

-- the word that is refused; 23: the text ends inside a line, a command or a section; 24: no stamp with both values
abbrev pub text_checks : List ℕ → Reader → List Check
text_checks text reader =
    check_at (refusal_of reader.part) (not (eqb (refusal_of reader.part) 0)) reader.place
    ∷ check_at 23 (not (closed text && may_end reader.part)) (length text)
    ∷ check_at 24 (not (eqb reader.wave.known max_level)) (length text)
    ∷ []

-- 26: a text that is too long; then those of the text; 6: too many samples; 8: a slice is too short for them
abbrev pub read_checks : List ℕ → ℕ → ℕ → List Check
read_checks text stamps-room levels-room =
    check 26 (ltb longest_text (length text))
    ∷ text_checks text (final text)
    ++ check 6 (ltb max_samples (length (stamps_in text)))
    ∷ check 8 (ltb stamps-room (length (stamps_in text)) || ltb levels-room (length (stamps_in text)))
    ∷ []

-- so many samples, whose stamps count units of so many femtoseconds
abbrev pub samples_in_unit : ℕ → ℕ → DumpRead
samples_in_unit count timescale = record { count = count; timescale = timescale }

-- what a text holds: its samples and its timescale
abbrev pub held : List ℕ → DumpRead
held text = samples_in_unit (length (stamps_in text)) (final text).timescale

-- the first of the checks that applies, else what the text holds
unfoldable pub dump_read : List ℕ → ℕ → ℕ → Result DumpRead Refusal
dump_read text stamps-room levels-room = answer (read_checks text stamps-room levels-room) (held text)

-- the lent slices after it: the samples, and their rest as it was; after a refusal all as it was
abbrev pub stamps_after : Result DumpRead Refusal → List ℕ → List ℕ → List ℕ
stamps_after (Ok read) text buffer = filled (stamps_in text) buffer
stamps_after (Err refusal) text buffer = buffer

abbrev pub levels_after : Result DumpRead Refusal → List ℕ → List ℕ → List ℕ
levels_after (Ok read) text buffer = filled (levels_in text) buffer
levels_after (Err refusal) text buffer = buffer
