-- The first difference of two lists of events: what was rehearsed, and what was seen (ours).
use Rattle.std.specs.Prelude.{ℕ, zero, suc, cond, ◌&&◌, List, [], ◌∷◌, eqb, ltb, length, get_or, take}
use Rattle.std.specs.Prelude.{Option, Some, None}
use Rattle.bits.specs.Positions.{digit}
use Rattle.laws.specs.Same.{same}
use Rattle.trace.specs.Events.{is_byte, start_event}
use Rattle.event_match.specs.declared.Part.{Part}
use Rattle.event_match.specs.declared.Part.TheVariants.{Other, Bit, Acknowledge}
use Rattle.event_match.specs.declared.Difference.{Difference}

-- how many events both begin with
abbrev pub agreed : List ℕ → List ℕ → ℕ
agreed [] seen = 0
agreed (event ∷ rehearsed) [] = 0
agreed (event ∷ rehearsed) (other ∷ seen) = cond (eqb event other) (suc (agreed rehearsed seen)) 0

-- which byte of a message an event leaves the next one at: 0 after a START that is not repeated, one more after a byte
abbrev pub byte_after : ℕ → ℕ → ℕ
byte_after byte event = cond (eqb event start_event) 0 (cond (is_byte event) (suc byte) byte)

-- which byte comes after these events
abbrev pub byte_from : ℕ → List ℕ → ℕ
byte_from byte [] = byte
byte_from byte (event ∷ events) = byte_from (byte_after byte event) events

-- of the bits below a position the first that differs, from the most significant; none does: the acknowledge differs
abbrev pub first_bit : ℕ → ℕ → ℕ → Part
first_bit zero event other = Acknowledge
first_bit (suc position) event other =
    cond (eqb (digit position event) (digit position other)) (first_bit position event other) (Bit position)

-- where two events differ: two bytes by a bit, any others as a whole
unfoldable pub part_of : ℕ → ℕ → Part
part_of event other = cond (is_byte event && is_byte other) (first_bit 8 event other) Other

-- the same at an index; where a list ends there is no event, and nothing to part
unfoldable pub part_at : List ℕ → List ℕ → ℕ → Part
part_at rehearsed seen index =
    cond (ltb index (length rehearsed) && ltb index (length seen))
    (part_of (get_or rehearsed index 0) (get_or seen index 0)) Other

-- a difference at an event, a byte and a part
abbrev pub difference_at : ℕ → ℕ → Part → Difference
difference_at index byte part = record { index = index; byte = byte; part = part }

-- the lists are the same, or they differ at the first event that one has and the other has not
unfoldable pub compared : List ℕ → List ℕ → Option Difference
compared rehearsed seen =
    let index = agreed rehearsed seen in
    cond (same rehearsed seen) None
    (Some (difference_at index (byte_from 0 (take index rehearsed)) (part_at rehearsed seen index)))
