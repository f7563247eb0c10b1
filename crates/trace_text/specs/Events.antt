-- How an event is written.
use Rattle.std.specs.Prelude.{Bool, cond, List, ◌++◌, ℕ, ◌%◌, eqb, ltb}
use Rattle.text.specs.Output.{hex_text}
use Rattle.trace.specs.Events.{start_event, repeated_start_event, stop_event, partial_event}
use Rattle.rig_lines.specs.Bytes.{ascii}

-- what stands between a byte and its acknowledge: the direction, where the byte is an address
unfoldable pub direction_text : Bool → ℕ → List ℕ
direction_text addressed byte = cond addressed (cond (eqb (byte % 2) 1) (ascii " read ") (ascii " write ")) (ascii " ")

-- a byte's ninth bit: low below 256
unfoldable pub acknowledge_text : ℕ → List ℕ
acknowledge_text event = cond (ltb event 256) (ascii "ACK") (ascii "NACK")

unfoldable pub byte_text : Bool → ℕ → List ℕ
byte_text addressed event =
    hex_text 2 (event % 256) ++ direction_text addressed (event % 256) ++ acknowledge_text event

unfoldable pub event_text : Bool → ℕ → List ℕ
event_text addressed event =
    cond (eqb event start_event) (ascii "START")
    (cond (eqb event repeated_start_event) (ascii "repeated START")
    (cond (eqb event stop_event) (ascii "STOP")
    (cond (eqb event partial_event) (ascii "cut byte") (byte_text addressed event))))
