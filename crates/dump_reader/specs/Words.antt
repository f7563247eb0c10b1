-- Words of a text, each with its place.
use Rattle.std.specs.Prelude.{ℕ, zero, suc, ◌+◌, ◌-◌, Bool, cond, not, ◌||◌, List, [], ◌∷◌, eqb, ltb, length, get_or, take, drop}
use Rattle.text.specs.Words.{run_length}
use Rattle.text.specs.Numbers.{between}
use Rattle.dump_reader.specs.declared.words.Run.{Run}
use Rattle.dump_reader.specs.declared.words.Run.TheVariants.{Parting, Word as InWord, Digits, Graphic}
use Rattle.dump_reader.specs.declared.words.Word.{Word}

-- tab, newline, carriage return and space part words
abbrev pub parting : ℕ → Bool
parting b = eqb b 0x09 || eqb b 0x0a || eqb b 0x0d || eqb b 0x20

-- which bytes a run has
abbrev pub belongs : Run → ℕ → Bool
belongs Parting b = parting b
belongs InWord b = not (parting b)
belongs Digits b = between 48 57 b
belongs Graphic b = between 0x21 0x7e b

-- the first word from a place on: past the bytes that part words, up to the next of them
abbrev pub word_start : List ℕ → ℕ → ℕ
word_start text from = from + run_length (belongs Parting) (drop from text)

abbrev pub word_from : List ℕ → ℕ → Word
word_from text from =
    record {
      start = word_start text from;
      end = word_start text from + run_length (belongs InWord) (drop (word_start text from) text);
    }

-- a word is whole where a byte that parts words follows; one that runs into the end of the text is cut
abbrev pub whole : List ℕ → Word → Bool
whole text word = ltb word.end (length text)

-- the whole words from a place on, at most so many
unfoldable pub words_up_to : ℕ → List ℕ → ℕ → List Word
words_up_to zero text from = []
words_up_to (suc most) text from =
    cond (whole text (word_from text from))
    (word_from text from ∷ words_up_to most text ((word_from text from).end + 1))
    []

-- all of them: there are no more than bytes
abbrev pub words : List ℕ → List Word
words text = words_up_to (length text) text 0

abbrev pub bytes_of : List ℕ → Word → List ℕ
bytes_of text word = take (word.end - word.start) (drop word.start text)

-- the first byte, 0 where there is none
abbrev pub first_byte : List ℕ → ℕ
first_byte word = get_or word 0 0

-- whether a word begins with `$`
abbrev pub begins : List ℕ → Bool
begins word = eqb (first_byte word) 0x24
