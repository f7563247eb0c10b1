-- Which load a frame is held against: rules 1 to 6 of `rig match` in docs/RIG.md (ours).
use Rattle.std.specs.Prelude.{ℕ, ◌+◌, Bool, cond, false, not, ◌&&◌, List, [], ◌∷◌, eqb, ltb, take}
use Rattle.laws.specs.Search.{any}
use Rattle.frame_match.specs.declared.Found.{Found}
use Rattle.frame_match.specs.declared.Found.TheVariants.{Waiting, Rehearsed, Different, Other}
use Rattle.frame_match.specs.Book.{is_of, is_rehearsed, waits_with, is_rehearsed_as, is_message}
use Rattle.frame_match.specs.Rows.{between, first_row, count, load_of, boards_end}
use Rattle.frame_match.specs.Frames.{frame_of, later_than}

-- 1: the first board that waits with this message
abbrev pub waiting_row : List ℕ → ℕ → List ℕ → List ℕ → ℕ
waiting_row book rows events frame = first_row (waits_with book events frame) 0 rows

-- 2: the frame is the rehearsed frame of the next load
abbrev pub is_next : List ℕ → ℕ → List ℕ → List ℕ → ℕ → Bool
is_next book rows events frame next = ltb next rows && is_rehearsed_as book events frame next

-- the first load from a row on whose rehearsed frame this is
abbrev pub rehearsed_row : List ℕ → ℕ → List ℕ → List ℕ → ℕ → ℕ
rehearsed_row book rows events frame from = first_row (is_rehearsed_as book events frame) from rows

-- 3: where a load is the Q-th after the next, counting those with a rehearsed frame, Q - 1 stand between the two; of
-- so many frames after this one none is the next load's
abbrev pub is_passed : List ℕ → List ℕ → List (List ℕ) → ℕ → ℕ → Bool
is_passed book events later next load =
    not (any (λ (frame : List ℕ). is_of book events frame next)
    (take (count (is_rehearsed book) (between (next + 1) load)) later))

-- 3: the frame is the rehearsed frame of a load after the next, and that one may be passed over
abbrev pub is_later : List ℕ → ℕ → List ℕ → List (List ℕ) → ℕ → Bool
is_later book rows events frames next =
    let load = rehearsed_row book rows events (frame_of frames) (next + 1) in
    ltb next rows && ltb load rows && is_passed book events (later_than frames) next load

-- 4: of these frames the first that is the rehearsed frame of the next load or of one after it is the next load's
abbrev pub comes : List ℕ → ℕ → List ℕ → ℕ → List (List ℕ) → Bool
comes book rows events next [] = false
comes book rows events next (frame ∷ frames) =
    let load = rehearsed_row book rows events frame next in
    cond (ltb load rows) (eqb load next) (comes book rows events next frames)

-- 4: there is a next load, the frame is the message of none of its boards, and the next load's frame comes after it
abbrev pub is_before : List ℕ → ℕ → List ℕ → List (List ℕ) → ℕ → Bool
is_before book rows events frames next =
    ltb next rows
    && not (any (is_message book events (frame_of frames)) (between (next + 1) (boards_end book rows next)))
    && comes book rows events next (later_than frames)

-- 4: not rehearsed; 5: there is a next load, and the frame differs from it; 6: not rehearsed
unfoldable pub unlike : List ℕ → ℕ → List ℕ → List (List ℕ) → ℕ → Found
unlike book rows events frames next =
    cond (is_before book rows events frames next) Other (cond (ltb next rows) Different Other)

-- 3, else 4 to 6
unfoldable pub ahead : List ℕ → ℕ → List ℕ → List (List ℕ) → ℕ → Found
ahead book rows events frames next =
    cond (is_later book rows events frames next)
    (Rehearsed (rehearsed_row book rows events (frame_of frames) (next + 1)))
    (unlike book rows events frames next)

-- 1, else 2, else 3 to 6: what the first of these frames is
unfoldable pub found : List ℕ → ℕ → List ℕ → List (List ℕ) → ℕ → Found
found book rows events frames next =
    let row = waiting_row book rows events (frame_of frames) in
    cond (ltb row rows) (Waiting row)
    (cond (is_next book rows events (frame_of frames) next) (Rehearsed next) (ahead book rows events frames next))

-- the load that the frame is about; past the rows where it is about none
abbrev pub load_about : List ℕ → ℕ → Found → ℕ → ℕ
load_about book rows (Waiting row) next = load_of book row
load_about book rows (Rehearsed load) next = load
load_about book rows Different next = next
load_about book rows Other next = rows

-- the first load after one that has a rehearsed frame
unfoldable pub load_after : List ℕ → ℕ → ℕ → ℕ
load_after book rows load = cond (ltb load rows) (first_row (is_rehearsed book) (load + 1) rows) rows

-- the next load after the frame: after 2, 3 and 5 the one after that load
abbrev pub next_after : List ℕ → ℕ → Found → ℕ → ℕ → ℕ
next_after book rows (Waiting row) load next = next
next_after book rows (Rehearsed row) load next = load_after book rows load
next_after book rows Different load next = load_after book rows load
next_after book rows Other load next = next
