-- Rows looked for and counted, in their order (ours).
use Rattle.std.specs.Prelude.{ℕ, zero, suc, ◌+◌, ◌-◌, Bool, cond, List, [], ◌∷◌, ltb}
use Rattle.laws.specs.Search.{first}
use Rattle.frame_match.specs.Book.{is_load}

-- so many rows from one on
abbrev pub counting : ℕ → ℕ → List ℕ
counting from zero = []
counting from (suc rows) = from ∷ counting (suc from) rows

-- the rows from one on, before an end
abbrev pub between : ℕ → ℕ → List ℕ
between from end = counting from (end - from)

-- the first of them that passes a test; where none does, the end
abbrev pub first_row : (ℕ → Bool) → ℕ → ℕ → ℕ
first_row test from end = from + first test (between from end)

-- how many pass it
abbrev pub count : (ℕ → Bool) → List ℕ → ℕ
count test [] = 0
count test (row ∷ rows) = cond (test row) (suc (count test rows)) (count test rows)

-- the load of a board: the last one up to its row
abbrev pub load_of : List ℕ → ℕ → ℕ
load_of book zero = 0
load_of book (suc row) = cond (is_load book (suc row)) (suc row) (load_of book row)

-- where the boards of a load end: at the next load, or with the rows
unfoldable pub boards_end : List ℕ → ℕ → ℕ → ℕ
boards_end book rows load = cond (ltb load rows) (first_row (is_load book) (load + 1) rows) rows
