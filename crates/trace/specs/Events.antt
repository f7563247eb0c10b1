-- The numbers of an event list, 01's entries.
use Rattle.std.specs.Prelude.{ℕ, ◌+◌, ◌*◌, Bool, ltb}
use mir.Val.{bool_byte}

-- nine bits: the byte, plus 256 if the ninth was high
abbrev pub byte_event : ℕ → Bool → ℕ
byte_event value ninth = value + 256 * bool_byte ninth

-- bytes are the events 0 to 511
abbrev pub is_byte : ℕ → Bool
is_byte event = ltb event 512

-- START opens a frame
abbrev pub start_event : ℕ
start_event = 512

-- START in an open frame
abbrev pub repeated_start_event : ℕ
repeated_start_event = 513

-- STOP closes a frame
abbrev pub stop_event : ℕ
stop_event = 514

-- one to eight bits before a START or STOP
abbrev pub partial_event : ℕ
partial_event = 515
