-- The rehearsal as it is kept: a row of eight numbers for each load, and one for each of its boards after it (ours).
use Rattle.std.specs.Prelude.{ℕ, ◌+◌, ◌*◌, Bool, cond, not, ◌&&◌, List, eqb, ltb, leb, get_or, take, drop, set}
use Rattle.laws.specs.Same.{same}
use Rattle.frame_match.specs.declared.book.Sought.{Sought}
use Rattle.frame_match.specs.declared.book.Sought.TheVariants.{Load, Board, Rehearsed, Waiting}

-- a number of a row; 0 where the book has none
abbrev pub number_at : List ℕ → ℕ → ℕ → ℕ
number_at book row field = get_or book (row * 8 + field) 0

abbrev pub kind_of : List ℕ → ℕ → ℕ
kind_of book row = number_at book row 0

abbrev pub state_of : List ℕ → ℕ → ℕ
state_of book row = number_at book row 1

-- a number is kept in 32 bits: 0 for one above them
unfoldable pub kept : ℕ → ℕ
kept value = cond (ltb 4294967295 value) 0 value

-- the book with a number of a row written, where it has one
abbrev pub put : ℕ → ℕ → ℕ → List ℕ → List ℕ
put row field value book = set book (row * 8 + field) (kept value)

-- the events of a row, from number 3 to number 4: a load's rehearsed frame, a board's message
abbrev pub events_of : List ℕ → List ℕ → ℕ → List ℕ
events_of book events row = drop (number_at book row 3) (take (number_at book row 4) events)

-- the frame is that of a row
abbrev pub is_of : List ℕ → List ℕ → List ℕ → ℕ → Bool
is_of book events frame row = same (events_of book events row) frame

-- a row is a load where its kind is 0, else a board of the load before it
abbrev pub is_load : List ℕ → ℕ → Bool
is_load book row = eqb (kind_of book row) 0

-- a load has a rehearsed frame: it is neither in error nor refused (2, 3), and has events
abbrev pub is_rehearsed : List ℕ → ℕ → Bool
is_rehearsed book row = is_load book row && leb (state_of book row) 1 && ltb (number_at book row 3) (number_at book row 4)

-- a board waits to send again
abbrev pub waits : List ℕ → ℕ → Bool
waits book row = not (is_load book row) && eqb (state_of book row) 1

-- the frame is the message of the board that waits in a row
abbrev pub waits_with : List ℕ → List ℕ → List ℕ → ℕ → Bool
waits_with book events frame row = waits book row && is_of book events frame row

-- it is the rehearsed frame of the load in a row
abbrev pub is_rehearsed_as : List ℕ → List ℕ → List ℕ → ℕ → Bool
is_rehearsed_as book events frame row = is_rehearsed book row && is_of book events frame row

-- it is the message of the board in a row
abbrev pub is_message : List ℕ → List ℕ → List ℕ → ℕ → Bool
is_message book events frame row = not (is_load book row) && is_of book events frame row

-- these tests by what a row is looked for as
abbrev pub is_a : Sought → List ℕ → ℕ → Bool
is_a Load book row = is_load book row
is_a Board book row = not (is_load book row)
is_a Rehearsed book row = is_rehearsed book row
is_a Waiting book row = waits book row

abbrev pub is_sought : Sought → List ℕ → List ℕ → List ℕ → ℕ → Bool
is_sought sought book events frame row = is_a sought book row && is_of book events frame row
