-- A complete list is zero or more frames: 512, one or more bytes, any number of (513, one or more bytes), 514.
use Rattle.std.specs.Prelude.{ℕ, ◌≡◌, Bool, true, false, cond, List, [], ◌∷◌, eqb}
use Rattle.encode.specs.declared.Position.{Position}
use Rattle.encode.specs.declared.Position.TheVariants.{Between, Opened, Within, Broken}
use Rattle.trace.specs.Events.{is_byte, start_event, repeated_start_event, stop_event}

-- between frames 512 may follow; after 512 or 513 a byte; after a byte another one, 513 or 514
unfoldable pub advance : Position → ℕ → Position
advance Between event = cond (eqb event start_event) Opened Broken
advance Opened event = cond (is_byte event) Within Broken
advance Within event =
    cond (is_byte event) Within
    (cond (eqb event repeated_start_event) Opened
    (cond (eqb event stop_event) Between Broken))
advance Broken event = Broken

-- a list may end between frames
abbrev pub ends : Position → Bool
ends Between = true
ends Opened = false
ends Within = false
ends Broken = false

-- from a position to the end of the list
abbrev pub complete_from : Position → List ℕ → Bool
complete_from position [] = ends position
complete_from position (event ∷ events) = complete_from (advance position event) events

-- the complete lists: refusal 9 is given for any other
abbrev pub complete : List ℕ → Bool
complete events = complete_from Between events

-- the same as a grammar, by the six ways in which a list can go on (proofs/Grammar.antt: they agree)
pub data Completes : Position → List ℕ → Type 0 where
  ended : Completes Between []
  start : {events : List ℕ} → Completes Opened events → Completes Between (start_event ∷ events)
  first : {event : ℕ} {events : List ℕ} → is_byte event ≡ true → Completes Within events
      → Completes Opened (event ∷ events)
  more : {event : ℕ} {events : List ℕ} → is_byte event ≡ true → Completes Within events
      → Completes Within (event ∷ events)
  again : {events : List ℕ} → Completes Opened events → Completes Within (repeated_start_event ∷ events)
  stop : {events : List ℕ} → Completes Between events → Completes Within (stop_event ∷ events)
