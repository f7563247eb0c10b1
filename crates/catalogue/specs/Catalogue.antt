-- Request 10: tonight's corrections over the standing catalogue. Each catalogue is a block of bytes with a rising list
-- of boards and a list of lengths; the messages (02: plans) lie one after the other in the block.
use Rattle.std.specs.Prelude.{ℕ, ◌+◌, Bool, cond, true, false, not, ◌&&◌, ◌||◌, List, [], ◌∷◌, ◌++◌, eqb, ltb, length, get_or, take, drop}
use Rattle.laws.specs.Refusals.{Check, check, given}
use Rattle.laws.specs.Search.{first, any}
use Rattle.catalogue.specs.declared.places.Located.{Located}

pub record Catalogue : Type 0 where
  pub block : List ℕ
  pub boards : List ℕ
  pub lengths : List ℕ

-- a catalogue of three lent slices
abbrev pub lent : List ℕ → List ℕ → List ℕ → Catalogue
lent block boards lengths = record { block = block; boards = boards; lengths = lengths }

-- 40: "A list that doesn't rise strictly": some board is not above the one before
abbrev pub rises_from : ℕ → List ℕ → Bool
rises_from before [] = true
rises_from before (board ∷ boards) = ltb before board && rises_from board boards

abbrev pub rises : List ℕ → Bool
rises [] = true
rises (board ∷ boards) = rises_from board boards

-- 41: "lengths that differ in number from the boards or don't sum to their block"
abbrev pub total : List ℕ → ℕ
total [] = 0
total (count ∷ counts) = count + total counts

abbrev pub bad_lengths : Catalogue → Bool
bad_lengths catalogue =
    not (eqb (length catalogue.lengths) (length catalogue.boards))
    || not (eqb (total catalogue.lengths) (length catalogue.block))

abbrev pub catalogue_checks : Catalogue → List Check
catalogue_checks catalogue = check 40 (not (rises catalogue.boards)) ∷ check 41 (bad_lengths catalogue) ∷ []

-- of one catalogue
unfoldable pub judged : Catalogue → ℕ
judged catalogue = (given (catalogue_checks catalogue)).number

-- a board in its list: whether, and where
abbrev pub is : ℕ → ℕ → Bool
is board other = eqb other board

abbrev pub lists : ℕ → Catalogue → Bool
lists board catalogue = any (is board) catalogue.boards

abbrev pub index_in : ℕ → Catalogue → ℕ
index_in board catalogue = first (is board) catalogue.boards

-- 42: "a board in neither". The order: corrections 40, 41, standing 40, 41, then 42, whatever the board is.
abbrev pub checks : ℕ → Catalogue → Catalogue → List Check
checks board corrections standing =
    catalogue_checks corrections
    ++ catalogue_checks standing
    ++ check 42 (not (lists board corrections || lists board standing))
    ∷ []

unfoldable pub number_of : ℕ → Catalogue → Catalogue → ℕ
number_of board corrections standing = (given (checks board corrections standing)).number

-- Which block: "that board's corrected plan, else its standing one".
abbrev pub chosen : ℕ → Catalogue → Catalogue → Catalogue
chosen board corrections standing = cond (lists board corrections) corrections standing

-- From where: past the messages before it. How long: its own length.
abbrev pub offset_at : ℕ → List ℕ → ℕ
offset_at index lengths = total (take index lengths)

abbrev pub length_at : ℕ → List ℕ → ℕ
length_at index lengths = get_or lengths index 0

abbrev pub message_in : ℕ → Catalogue → List ℕ
message_in board catalogue =
    take (length_at (index_in board catalogue) catalogue.lengths)
    (drop (offset_at (index_in board catalogue) catalogue.lengths) catalogue.block)

-- "At a refusal the part is empty".
unfoldable pub message_of : ℕ → Catalogue → Catalogue → List ℕ
message_of board corrections standing =
    cond (eqb (number_of board corrections standing) 0) (message_in board (chosen board corrections standing)) []

-- the same as numbers
abbrev pub refused_by : ℕ → Located
refused_by number = record { number = number; corrected = false; offset = 0; length = 0 }

abbrev pub found_at : Bool → ℕ → List ℕ → Located
found_at corrected index lengths =
    record { number = 0; corrected = corrected; offset = offset_at index lengths; length = length_at index lengths }

abbrev pub found_in : ℕ → Bool → Catalogue → Located
found_in board corrected catalogue = found_at corrected (index_in board catalogue) catalogue.lengths

unfoldable pub located : ℕ → Catalogue → Catalogue → Located
located board corrections standing =
    cond (eqb (number_of board corrections standing) 0)
    (found_in board (lists board corrections) (chosen board corrections standing))
    (refused_by (number_of board corrections standing))
