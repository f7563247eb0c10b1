-- Words in a list, each in a line of its own (docs/RIG.md).
use Rattle.std.specs.Prelude.{ℕ, zero, suc, cond, List}
use Rattle.laws.specs.Same.{same}
use Rattle.text.specs.Words.{first_line, after_line}

-- a list past so many lines
unfoldable pub after_lines : ℕ → List ℕ → List ℕ
after_lines zero list = list
after_lines (suc n) list = after_lines n (after_line list)

-- the line of a list at a place, counted from 0
abbrev pub line_at : ℕ → List ℕ → List ℕ
line_at n list = first_line (after_lines n list)

-- the place of a word among the first lines, as many as are looked at; else how many these are
unfoldable pub place_of : ℕ → List ℕ → List ℕ → ℕ
place_of zero list word = 0
place_of (suc more) list word = cond (same (first_line list) word) 0 (suc (place_of more (after_line list) word))
