-- What a line and a word of a text are: runs of bytes that pass a test.
use Rattle.std.specs.Prelude.{Bool, not, cond, ◌||◌, List, [], ◌∷◌, ℕ, suc, eqb, take, drop}
use Rattle.text.specs.declared.words.Run.{Run}
use Rattle.text.specs.declared.words.Run.TheVariants.{Line, Blanks, Word}

-- space, tab or carriage return
abbrev pub blank : ℕ → Bool
blank b = eqb b 0x20 || eqb b 0x09 || eqb b 0x0d

-- which bytes a run has: a line all but the newline, a word all but blanks
abbrev pub belongs : Run → ℕ → Bool
belongs Line b = not (eqb b 0x0a)
belongs Blanks b = blank b
belongs Word b = not (blank b)

-- how many bytes at the front of a text pass a test
unfoldable pub run_length : (ℕ → Bool) → List ℕ → ℕ
run_length test [] = 0
run_length test (b ∷ bs) = cond (test b) (suc (run_length test bs)) 0

-- a text up to its first newline
abbrev pub first_line : List ℕ → List ℕ
first_line text = take (run_length (belongs Line) text) text

-- a text past its first newline
abbrev pub after_line : List ℕ → List ℕ
after_line text = drop (suc (run_length (belongs Line) text)) text

-- a line from its first byte that is no blank
abbrev pub from_word : List ℕ → List ℕ
from_word line = drop (run_length (belongs Blanks) line) line

-- the first word of a line, empty where there is none
abbrev pub first_word : List ℕ → List ℕ
first_word line = take (run_length (belongs Word) (from_word line)) (from_word line)

-- what follows the first word of a line
abbrev pub after_word : List ℕ → List ℕ
after_word line = drop (run_length (belongs Word) (from_word line)) (from_word line)
