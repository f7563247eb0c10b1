-- The grammar as a fold over the words of a text, and the samples that the words complete.
use Rattle.std.specs.Prelude.{ℕ, true, false, cond, List, [], ◌∷◌, ◌++◌, eqb}
use Rattle.dump_reader.specs.declared.words.Word.{Word}
use Rattle.dump_reader.specs.declared.reader.Part as part
use Rattle.dump_reader.specs.declared.reader.Part.TheVariants as next
use Rattle.dump_reader.specs.declared.reader.Wave.{Wave}
use Rattle.dump_reader.specs.declared.reader.Reader.{Reader}
use Rattle.dump_reader.specs.Words.{words, bytes_of}
use Rattle.dump_reader.specs.Reader.{started, with_part, with_place}
use Rattle.dump_reader.specs.Timescale as timescale
use Rattle.dump_reader.specs.Definitions as definitions
use Rattle.dump_reader.specs.Values as values

-- a word, by what may stand next; after a refusal no word is judged
abbrev pub step_in : part.Part → List ℕ → Reader → Reader → List ℕ → Word → Reader
step_in next.Definitions text reader here bytes word = with_part (definitions.command bytes here.wires) here
step_in next.Note text reader here bytes word = with_part (definitions.skip bytes next.Note next.Definitions) here
step_in next.Number text reader here bytes word = timescale.number here bytes
step_in (next.Unit power) text reader here bytes word = timescale.unit here power bytes
step_in next.Close text reader here bytes word = with_part (definitions.close bytes next.Definitions) here
step_in next.ScopeType text reader here bytes word = with_part (definitions.scope_type bytes) here
step_in next.ScopeName text reader here bytes word = with_part (definitions.name bytes next.Close) here
step_in next.WireType text reader here bytes word = with_part (definitions.wire_type bytes) here
step_in next.WireSize text reader here bytes word = with_part (definitions.wire_size bytes) here
step_in next.Identifier text reader here bytes word = definitions.declare text here word
step_in next.Name text reader here bytes word = with_part (definitions.name bytes next.Names) here
step_in next.Names text reader here bytes word = with_part (definitions.names bytes) here
step_in next.Opening text reader here bytes word = with_part (definitions.close bytes next.Values) here
step_in next.Values text reader here bytes word = values.change text here bytes false
step_in next.Section text reader here bytes word = values.change text here bytes true
step_in next.Comment text reader here bytes word = with_part (definitions.skip bytes next.Comment next.Values) here
step_in (next.Refused number) text reader here bytes word = reader

-- the place of a word that is judged is kept: a refusal has it
unfoldable pub step : List ℕ → Reader → Word → Reader
step text reader word =
    step_in reader.part text reader (with_place word.start reader) (bytes_of text word) word

-- the reader after all words
abbrev pub after : List ℕ → Reader → List Word → Reader
after text reader [] = reader
after text reader (word ∷ others) = after text (step text reader word) others

abbrev pub final : List ℕ → Reader
final text = after text started (words text)

-- a sample is complete where another level is shown after a word, and at the end of the text where its level is not
-- the one shown; of each, the stamp or the level is listed
abbrev pub stamp_of : Wave → ℕ
stamp_of wave = wave.stamp

abbrev pub level_of : Wave → ℕ
level_of wave = wave.level

unfoldable pub completed : (Wave → ℕ) → Wave → ℕ → List ℕ
completed of wave shown = cond (eqb wave.shown shown) [] (of wave ∷ [])

abbrev pub listed : (Wave → ℕ) → List ℕ → Reader → List Word → List ℕ
listed of text reader [] = completed of reader.wave reader.wave.level
listed of text reader (word ∷ others) =
    completed of reader.wave (step text reader word).wave.shown ++ listed of text (step text reader word) others

-- the stamps and the levels of all samples
abbrev pub stamps_in : List ℕ → List ℕ
stamps_in text = listed stamp_of text started (words text)

abbrev pub levels_in : List ℕ → List ℕ
levels_in text = listed level_of text started (words text)
