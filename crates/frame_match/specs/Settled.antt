-- The load that a frame is about, and its boards, after the frame (ours).
use Rattle.std.specs.Prelude.{ℕ, ◌+◌, Bool, cond, not, ◌&&◌, List, [], ◌∷◌, eqb, ltb}
use Rattle.frame_match.specs.declared.Found.{Found}
use Rattle.frame_match.specs.declared.Found.TheVariants.{Waiting, Rehearsed, Different, Other}
use Rattle.frame_match.specs.Book.{kind_of, state_of, put, is_of}
use Rattle.frame_match.specs.Rows.{between, boards_end}

-- how a board stands (1: it waits, 2: it is done), by its kind, how it stood, and whether the frame is its message:
-- after 1 those that waited with it are done; after 2 and 3 those that won and were not cut (1), and the others wait;
-- after 5 those whose message it is, and the others wait
abbrev pub state_after : Found → ℕ → ℕ → Bool → ℕ
state_after (Waiting row) kind state sends = cond (sends && eqb state 1) 2 state
state_after (Rehearsed row) kind state sends = cond (eqb kind 1) 2 1
state_after Different kind state sends = cond sends 2 1
state_after Other kind state sends = state

-- where a board begins to wait, it waits since this frame
unfoldable pub marked : ℕ → ℕ → ℕ → List ℕ → List ℕ
marked row state number book = cond (eqb state 1 && not (eqb (state_of book row) 1)) (put row 2 number book) book

-- the book where a board stands so
abbrev pub stands : ℕ → ℕ → ℕ → List ℕ → List ℕ
stands row state number book = put row 1 state (marked row state number book)

-- a board after the frame
abbrev pub board_after : List ℕ → List ℕ → Found → ℕ → List ℕ → ℕ → List ℕ
board_after events frame found number book row =
    stands row (state_after found (kind_of book row) (state_of book row) (is_of book events frame row)) number book

-- boards, each in its row
abbrev pub boards_after : List ℕ → List ℕ → Found → ℕ → List ℕ → List ℕ → List ℕ
boards_after events frame found number book [] = book
boards_after events frame found number book (row ∷ rows) =
    boards_after events frame found number (board_after events frame found number book row) rows

-- the load has been met (1), and its boards; past the rows nothing is written
unfoldable pub settled : List ℕ → ℕ → List ℕ → List ℕ → ℕ → Found → ℕ → List ℕ
settled book rows events frame load found number =
    cond (ltb load rows)
    (boards_after events frame found number (put load 1 1 book) (between (load + 1) (boards_end book rows load)))
    book
