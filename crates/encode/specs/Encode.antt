-- How an event list is drawn: its levels, their number, and the stamps.
use Rattle.std.specs.Prelude.{ℕ, zero, suc, ◌+◌, ◌*◌, ◌-◌, Bool, cond, List, [], ◌∷◌, ◌++◌, eqb}
use mir.Val.{bool_byte}
use Rattle.bits.specs.Positions.{is_set}
use Rattle.trace.specs.Events.{is_byte, start_event, repeated_start_event, stop_event}

-- a number's bits below n, most significant first
abbrev pub bits_below : ℕ → ℕ → List Bool
bits_below zero number = []
bits_below (suc k) number = is_set k number ∷ bits_below k number

-- a byte's eight bits, most significant first
unfoldable pub byte_bits : ℕ → List Bool
byte_bits byte = bits_below 8 byte

-- the nine bits of a byte's event
abbrev pub event_bits : ℕ → List Bool
event_bits event = byte_bits event ++ is_set 8 event ∷ []

-- a bit b draws 2b, 2b+1
abbrev pub draw_bit : Bool → List ℕ
draw_bit b = 2 * bool_byte b ∷ (2 * bool_byte b + 1) ∷ []

-- bits, one after the other
abbrev pub draw_bits : List Bool → List ℕ
draw_bits [] = []
draw_bits (b ∷ bits) = draw_bit b ++ draw_bits bits

-- START: 1; the bits of a byte; repeated START: 2, 3, 1; STOP: 0, 1, 3 (no other number stands in a complete list)
unfoldable pub draw_event : ℕ → List ℕ
draw_event event =
    cond (is_byte event) (draw_bits (event_bits event))
    (cond (eqb event start_event) (1 ∷ [])
    (cond (eqb event repeated_start_event) (2 ∷ 3 ∷ 1 ∷ [])
    (cond (eqb event stop_event) (0 ∷ 1 ∷ 3 ∷ []) [])))

-- events, one after the other
abbrev pub draw_events : List ℕ → List ℕ
draw_events [] = []
draw_events (event ∷ events) = draw_event event ++ draw_events events

-- level 3 comes first
abbrev pub drawing : List ℕ → List ℕ
drawing events = 3 ∷ draw_events events

-- how many events are of a kind
abbrev pub how_many : (ℕ → Bool) → List ℕ → ℕ
how_many kind [] = 0
how_many kind (event ∷ events) = bool_byte (kind event) + how_many kind events

-- the frames of a list are its STARTs
abbrev pub is_start : ℕ → Bool
is_start event = eqb event start_event

-- the repeated STARTs
abbrev pub is_repeated_start : ℕ → Bool
is_repeated_start event = eqb event repeated_start_event

-- a list with f frames, n bytes and r repeated STARTs takes 1 + 4f + 18n + 3r samples
abbrev pub sample_count : List ℕ → ℕ
sample_count events =
    1 + 4 * how_many is_start events + 18 * how_many is_byte events + 3 * how_many is_repeated_start events

-- one event's part in that
unfoldable pub event_samples : ℕ → ℕ
event_samples event =
    4 * bool_byte (is_start event) + 18 * bool_byte (is_byte event) + 3 * bool_byte (is_repeated_start event)

-- stamps start at a number and rise by a gap
abbrev pub stamps_from : ℕ → ℕ → ℕ → List ℕ
stamps_from start gap zero = []
stamps_from start gap (suc count) = start ∷ stamps_from (start + gap) gap count

-- the last of them
abbrev pub last_stamp : ℕ → ℕ → ℕ → ℕ
last_stamp start gap count = start + gap * (count - 1)
