-- Worked books and captures, each of the reply.
use mathlib.Core.Path.{◌≡◌, refl}
use mathlib.Core.List.{List, [], ◌∷◌, ◌++◌}
use Prim.Native.Nat.{ℕ}
use lib.ListN.{drop}
use Rattle.laws.specs.Same.{same}
use Rattle.frame_match.specs.declared.Found.TheVariants.{Waiting, Rehearsed, Different, Other}
use Rattle.frame_match.specs.Book.{number_at, kept, put, is_rehearsed, is_message}
use Rattle.frame_match.specs.Rows.{first_row, boards_end, load_of}
use Rattle.frame_match.specs.Frames.{cut}
use Rattle.frame_match.specs.Rules.{unlike, ahead, found, load_about, load_after, next_after}
use Rattle.frame_match.specs.Settled.{marked, settled}

-- four frames: START, bytes, STOP; the first two are those of two boards that start together
abbrev one : List ℕ
one = 512 ∷ 0x90 ∷ 0x12 ∷ 514 ∷ []

abbrev loser : List ℕ
loser = 512 ∷ 0x92 ∷ 0x12 ∷ 514 ∷ []

abbrev two : List ℕ
two = 512 ∷ 0x20 ∷ 0x30 ∷ 514 ∷ []

abbrev three : List ℕ
three = 512 ∷ 0x40 ∷ 514 ∷ []

-- no load has it
abbrev strange : List ℕ
strange = 512 ∷ 0x66 ∷ 514 ∷ []

abbrev events : List ℕ
events = one ++ loser ++ two ++ three

-- a load of two boards, of which the second lost; three loads of a board each, the last with the frame of the first
abbrev book : List ℕ
book =
    (0 ∷ 0 ∷ 0 ∷ 0 ∷ 4 ∷ 0 ∷ 0 ∷ 0 ∷ [])
    ++ (1 ∷ 0 ∷ 0 ∷ 0 ∷ 4 ∷ 0 ∷ 0 ∷ 1 ∷ [])
    ++ (4 ∷ 0 ∷ 0 ∷ 4 ∷ 8 ∷ 0 ∷ 0 ∷ 2 ∷ [])
    ++ (0 ∷ 0 ∷ 0 ∷ 8 ∷ 12 ∷ 0 ∷ 0 ∷ 0 ∷ [])
    ++ (1 ∷ 0 ∷ 0 ∷ 8 ∷ 12 ∷ 0 ∷ 0 ∷ 1 ∷ [])
    ++ (0 ∷ 0 ∷ 0 ∷ 12 ∷ 15 ∷ 0 ∷ 0 ∷ 0 ∷ [])
    ++ (1 ∷ 0 ∷ 0 ∷ 12 ∷ 15 ∷ 0 ∷ 0 ∷ 1 ∷ [])
    ++ (0 ∷ 0 ∷ 0 ∷ 0 ∷ 4 ∷ 0 ∷ 0 ∷ 0 ∷ [])
    ++ (1 ∷ 0 ∷ 0 ∷ 0 ∷ 4 ∷ 0 ∷ 0 ∷ 1 ∷ [])

-- the same after frame 5, which was the first load's: it is met, its winner is done, its loser waits
abbrev after : List ℕ
after =
    (0 ∷ 1 ∷ 0 ∷ 0 ∷ 4 ∷ 0 ∷ 0 ∷ 0 ∷ [])
    ++ (1 ∷ 2 ∷ 0 ∷ 0 ∷ 4 ∷ 0 ∷ 0 ∷ 1 ∷ [])
    ++ (4 ∷ 1 ∷ 5 ∷ 4 ∷ 8 ∷ 0 ∷ 0 ∷ 2 ∷ [])
    ++ (0 ∷ 0 ∷ 0 ∷ 8 ∷ 12 ∷ 0 ∷ 0 ∷ 0 ∷ [])
    ++ (1 ∷ 0 ∷ 0 ∷ 8 ∷ 12 ∷ 0 ∷ 0 ∷ 1 ∷ [])
    ++ (0 ∷ 0 ∷ 0 ∷ 12 ∷ 15 ∷ 0 ∷ 0 ∷ 0 ∷ [])
    ++ (1 ∷ 0 ∷ 0 ∷ 12 ∷ 15 ∷ 0 ∷ 0 ∷ 1 ∷ [])
    ++ (0 ∷ 0 ∷ 0 ∷ 0 ∷ 4 ∷ 0 ∷ 0 ∷ 0 ∷ [])
    ++ (1 ∷ 0 ∷ 0 ∷ 0 ∷ 4 ∷ 0 ∷ 0 ∷ 1 ∷ [])

-- a repeated START does not end a frame; what stands before the first START is a piece of its own
pub cut-at-starts : (cut (512 ∷ 1 ∷ 513 ∷ 2 ∷ 514 ∷ 512 ∷ 3 ∷ 514 ∷ []) ≡ (512 ∷ 1 ∷ 513 ∷ 2 ∷ 514 ∷ []) ∷ (512 ∷ 3 ∷ 514 ∷ []) ∷ [])
    × (cut (514 ∷ 512 ∷ 512 ∷ []) ≡ (514 ∷ []) ∷ (512 ∷ []) ∷ (512 ∷ []) ∷ [])
    × (cut (one ++ two) ≡ one ∷ two ∷ [])
cut-at-starts = (refl, refl, refl)

-- 2: the frame of the next load, though a later load has the same; a load that is refused has none
pub next-taken : (found book 9 events (one ∷ []) 0 ≡ Rehearsed 0)
    × (load_about book 9 (Rehearsed 0) 0 ≡ 0)
    × (next_after book 9 (Rehearsed 0) 0 0 ≡ 3)
    × (next_after book 9 (Rehearsed 7) 7 3 ≡ 9)
unfolding found ahead unlike boards_end load_after same
next-taken = (refl, refl, refl, refl)

-- after it the load is met, its winner is done and its loser waits, since this frame; no other row changes
pub load-settled : settled book 9 events one 0 (Rehearsed 0) 5 ≡ after
unfolding settled boards_end marked kept same
load-settled = refl

-- 1: the loser's message, whatever load is next; it then waits no longer
pub loser-waits : (found after 9 events (loser ∷ two ∷ []) 3 ≡ Waiting 2)
    × (load_about after 9 (Waiting 2) 3 ≡ 0)
    × (next_after after 9 (Waiting 2) 0 3 ≡ 3)
    × (found (settled after 9 events loser 0 (Waiting 2) 6) 9 events (loser ∷ two ∷ []) 3 ≡ Other)
unfolding found ahead unlike boards_end settled marked kept same
loser-waits = (refl, refl, refl, refl)

-- 1 before 2: a load refused, a board of the next that waits with what the load after it carries
abbrev alike : List ℕ
alike =
    (0 ∷ 3 ∷ 0 ∷ 0 ∷ 4 ∷ 0 ∷ 0 ∷ 0 ∷ [])
    ++ (0 ∷ 1 ∷ 0 ∷ 0 ∷ 4 ∷ 0 ∷ 0 ∷ 0 ∷ [])
    ++ (4 ∷ 1 ∷ 1 ∷ 8 ∷ 12 ∷ 0 ∷ 0 ∷ 2 ∷ [])
    ++ (0 ∷ 0 ∷ 0 ∷ 8 ∷ 12 ∷ 0 ∷ 0 ∷ 0 ∷ [])

pub waiting-before-next : (found alike 4 events (two ∷ []) 3 ≡ Waiting 2)
    × (load_about alike 4 (Waiting 2) 3 ≡ 1)
    × (next_after alike 4 (Rehearsed 1) 1 1 ≡ 3)
unfolding found ahead unlike boards_end load_after same
waiting-before-next = (refl, refl, refl)

-- 3: a load that is missing is passed over, also where its frame comes after the other's
pub missing-passed : (found after 9 events (three ∷ one ∷ []) 3 ≡ Rehearsed 5)
    × (found after 9 events (three ∷ two ∷ []) 3 ≡ Rehearsed 5)
    × (found after 9 events (one ∷ []) 3 ≡ Rehearsed 7)
    × (found after 9 events (one ∷ three ∷ two ∷ []) 3 ≡ Rehearsed 7)
unfolding found ahead unlike boards_end same
missing-passed = (refl, refl, refl, refl)

-- 3 and 4: the first load's frame came twice; it is not taken for the last load, two on, since the next one follows
pub twice-not-far-on : found after 9 events (one ∷ two ∷ three ∷ one ∷ []) 3 ≡ Other
unfolding found ahead unlike boards_end same
twice-not-far-on = refl

-- 4: not rehearsed, since the next load's frame follows, after whatever is not rehearsed either
pub next-follows : (found after 9 events (strange ∷ two ∷ []) 3 ≡ Other)
    × (found after 9 events (strange ∷ strange ∷ two ∷ three ∷ []) 3 ≡ Other)
    × (load_about after 9 Other 3 ≡ 9)
    × (next_after after 9 Other 9 3 ≡ 3)
unfolding found ahead unlike boards_end same
next-follows = (refl, refl, refl, refl)

-- 5: it stands in the next load's place, since that does not follow, or a later load's frame comes before it
pub in-its-place : (found after 9 events (strange ∷ []) 3 ≡ Different)
    × (found after 9 events (strange ∷ three ∷ two ∷ []) 3 ≡ Different)
    × (load_about after 9 Different 3 ≡ 3)
    × (next_after after 9 Different 3 3 ≡ 5)
unfolding found ahead unlike boards_end load_after same
in-its-place = (refl, refl, refl, refl)

-- 5: the message of another board of the next load, though the rehearsed frame follows; all boards but its own wait
pub board-in-its-place : (found book 9 events (loser ∷ one ∷ []) 0 ≡ Different)
    × (settled book 3 events loser 0 Different 1
    ≡ (0 ∷ 1 ∷ 0 ∷ 0 ∷ 4 ∷ 0 ∷ 0 ∷ 0 ∷ []) ++ (1 ∷ 1 ∷ 1 ∷ 0 ∷ 4 ∷ 0 ∷ 0 ∷ 1 ∷ [])
    ++ (4 ∷ 2 ∷ 0 ∷ 4 ∷ 8 ∷ 0 ∷ 0 ∷ 2 ∷ []) ++ drop 24 book)
unfolding found ahead unlike boards_end settled marked kept same
board-in-its-place = (refl, refl)

-- 6: no load is next
pub none-next : (found after 9 events (two ∷ []) 9 ≡ Other) × (found after 9 events [] 9 ≡ Other)
unfolding found ahead unlike boards_end same
none-next = (refl, refl)

-- of a frame about no load nothing is written
pub nothing-settled : settled book 9 events strange 9 Other 1 ≡ book
unfolding settled boards_end marked kept same
nothing-settled = refl

-- a board that was cut waits too; the load of a board is the last one up to its row
pub cut-waits : (settled (0 ∷ 0 ∷ 0 ∷ 0 ∷ 4 ∷ 0 ∷ 0 ∷ 0 ∷ 2 ∷ 0 ∷ 0 ∷ 0 ∷ 4 ∷ 0 ∷ 0 ∷ 1 ∷ []) 2 events one 0 (Rehearsed 0) 7
    ≡ 0 ∷ 1 ∷ 0 ∷ 0 ∷ 4 ∷ 0 ∷ 0 ∷ 0 ∷ 2 ∷ 1 ∷ 7 ∷ 0 ∷ 4 ∷ 0 ∷ 0 ∷ 1 ∷ [])
    × (load_of book 6 ≡ 5) × (load_of book 2 ≡ 0)
unfolding settled boards_end marked kept same
cut-waits = (refl, refl, refl)

-- a board that waits on does so since the frame at which it began to: another's message came at frame 9
pub waits-on : settled
    ((0 ∷ 1 ∷ 0 ∷ 0 ∷ 4 ∷ 0 ∷ 0 ∷ 0 ∷ []) ++ (4 ∷ 1 ∷ 5 ∷ 4 ∷ 8 ∷ 0 ∷ 0 ∷ 1 ∷ []) ++ (3 ∷ 1 ∷ 5 ∷ 8 ∷ 12 ∷ 0 ∷ 0 ∷ 2 ∷ [])) 3 events loser 0 (Waiting 1) 9
    ≡ (0 ∷ 1 ∷ 0 ∷ 0 ∷ 4 ∷ 0 ∷ 0 ∷ 0 ∷ []) ++ (4 ∷ 2 ∷ 5 ∷ 4 ∷ 8 ∷ 0 ∷ 0 ∷ 1 ∷ []) ++ (3 ∷ 1 ∷ 5 ∷ 8 ∷ 12 ∷ 0 ∷ 0 ∷ 2 ∷ [])
unfolding settled boards_end marked kept same
waits-on = refl

-- a number of a row, none past the book; one of 33 bits is kept as 0, and past the book nothing is written
pub numbers-kept : (number_at book 2 3 ≡ 4) × (number_at book 9 0 ≡ 0)
    × (put 0 1 4294967295 (7 ∷ 7 ∷ []) ≡ 7 ∷ 4294967295 ∷ [])
    × (put 0 1 4294967296 (7 ∷ 7 ∷ []) ≡ 7 ∷ 0 ∷ [])
    × (put 0 2 1 (7 ∷ 7 ∷ []) ≡ 7 ∷ 7 ∷ [])
unfolding kept
numbers-kept = (refl, refl, refl, refl, refl)

-- the next load, the first board with a message, where boards end: the row, or the end where there is none
pub rows-found : (first_row (is_rehearsed book) 1 9 ≡ 3) × (first_row (is_rehearsed book) 8 9 ≡ 9)
    × (first_row (is_message book events loser) 0 9 ≡ 2) × (first_row (is_message book events strange) 0 9 ≡ 9)
    × (boards_end book 9 0 ≡ 3) × (boards_end book 9 7 ≡ 9) × (boards_end book 9 9 ≡ 9)
unfolding boards_end same
rows-found = (refl, refl, refl, refl, refl, refl, refl)
