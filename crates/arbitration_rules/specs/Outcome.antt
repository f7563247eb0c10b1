-- What follows from messages (01: plans) and acknowledges (01: answers) alone: who keeps the bus, what it carries,
-- who loses where.
use Rattle.std.specs.Prelude.{ℕ, suc, ◌+◌, ◌*◌, ◌%◌, Bool, cond, true, false, not, ◌&&◌, ◌||◌, List, [], ◌∷◌, ◌++◌, map, eqb, ltb, length, get_or, take, drop}
use Rattle.std.specs.Bool.{beq}
use Rattle.std.proofs.Math.Option.{Option, none, some}
use Rattle.laws.specs.Search.{any}
use Rattle.trace.specs.Events.{start_event, repeated_start_event, stop_event}
use Rattle.encode.specs.Encode.{byte_bits, drawing}

-- What is known of one master at the end: whether it is still in, its position (01: place), and its AL.
pub record Fate : Type 0 where
  pub contending : Bool
  pub position : ℕ
  pub arbitration_lost : Bool

-- What demand 3 compares: how many bytes are carried (01: k), these bytes, the recorded levels, each master's fate.
pub record Outcome : Type 0 where
  pub count : ℕ
  pub carried : List ℕ
  pub levels : List ℕ
  pub fates : List Fate

-- A message is what it sends, one number a byte: 256 and the byte; or the byte alone where a restart (a repeated START)
-- stands before it (02: Ask 4). At its end it sends a STOP.
abbrev pub byte_of : ℕ → ℕ
byte_of sent = sent % 256

abbrev pub restarts : ℕ → Bool
restarts sent = ltb sent 256

-- What it sends at an index, and the byte of that; past its end a byte of 0.
abbrev pub sent_at : ℕ → List ℕ → ℕ
sent_at index message = get_or message index 256

abbrev pub byte_at : ℕ → List ℕ → ℕ
byte_at index message = byte_of (sent_at index message)

-- Messages are ordered by what they send: a restart is smaller than a STOP, a STOP smaller than any byte.
abbrev pub at_most : List ℕ → List ℕ → Bool
at_most [] [] = true
at_most [] (other ∷ others) = not (restarts other)
at_most (sent ∷ message) [] = restarts sent
at_most (sent ∷ message) (other ∷ others) = ltb sent other || eqb sent other && at_most message others

-- The smallest message is the least in that order; equal messages count as one.
abbrev pub lesser : List ℕ → List ℕ → List ℕ
lesser message other = cond (at_most message other) message other

abbrev pub least_from : List ℕ → List (List ℕ) → List ℕ
least_from message [] = message
least_from message (other ∷ others) = least_from (lesser message other) others

abbrev pub least : List (List ℕ) → List ℕ
least [] = []
least (message ∷ messages) = least_from message messages

-- k is one more than its first byte not acknowledged (answer 1); without one, its length. Answers past its length
-- don't count.
abbrev pub carried_count : List ℕ → List ℕ → ℕ
carried_count [] acknowledges = 0
carried_count (sent ∷ message) [] = suc (carried_count message [])
carried_count (sent ∷ message) (acknowledge ∷ acknowledges) =
    cond (eqb acknowledge 1) 1 (suc (carried_count message acknowledges))

-- The bus carries its first k bytes, and the restarts before them.
unfoldable pub carried_of : List (List ℕ) → List ℕ → List ℕ
carried_of messages acknowledges = take (carried_count (least messages) acknowledges) (least messages)

-- The list behind the drawing: 512, each carried byte plus 256 times its answer, 513 before it where a restart stands
-- there, 514.
abbrev pub restart_events : ℕ → List ℕ
restart_events sent = cond (restarts sent) (repeated_start_event ∷ []) []

abbrev pub sent_events : ℕ → ℕ → List ℕ
sent_events sent acknowledge = restart_events sent ++ (byte_of sent + 256 * acknowledge) ∷ []

abbrev pub carried_events : List ℕ → List ℕ → List ℕ
carried_events [] acknowledges = []
carried_events (sent ∷ carried) acknowledges =
    sent_events sent (get_or acknowledges 0 0) ++ carried_events carried (drop 1 acknowledges)

unfoldable pub frame : List ℕ → List ℕ → List ℕ
frame carried acknowledges = start_event ∷ carried_events carried acknowledges ++ stop_event ∷ []

-- It has 5 + 18k levels, and three for each restart (proofs/RecordedLevels.antt).
abbrev pub restart_count : List ℕ → ℕ
restart_count [] = 0
restart_count (sent ∷ carried) = cond (restarts sent) 1 0 + restart_count carried

abbrev pub level_count : List ℕ → ℕ
level_count carried = 5 + 18 * length carried + 3 * restart_count carried

-- The first unequal bit of two bytes, 0 being the most significant.
abbrev pub unequal_bit : List Bool → List Bool → ℕ
unequal_bit [] others = 0
unequal_bit (bit ∷ bits) [] = 0
unequal_bit (bit ∷ bits) (other ∷ others) = cond (beq bit other) (suc (unequal_bit bits others)) 0

unfoldable pub position_in : ℕ → ℕ → ℕ → ℕ
position_in byte own index = 9 * index + unequal_bit (byte_bits byte) (byte_bits own)

-- A master loses exactly when its message and what is carried have unequal bytes at some place; the first such byte
-- and in it the first unequal bit give its position, which counts carried bytes only. Compared from an index on.
abbrev pub loss_from : ℕ → List ℕ → List ℕ → Option ℕ
loss_from index [] message = none
loss_from index (sent ∷ carried) [] = none
loss_from index (sent ∷ carried) (own ∷ message) =
    cond (eqb (byte_of own) (byte_of sent)) (loss_from (suc index) carried message)
    (some (position_in (byte_of sent) (byte_of own) index))

-- A loser's AL is 1. Every other master is still in, position 0, AL 0.
abbrev pub fate : Option ℕ → Fate
fate none = record { contending = true; position = 0; arbitration_lost = false }
fate (some position) = record { contending = false; position = position; arbitration_lost = true }

-- The levels are those that encode (01: the writer) draws for the list behind the drawing.
unfoldable pub outcome : List (List ℕ) → List ℕ → Outcome
outcome messages acknowledges =
    let carried = carried_of messages acknowledges in
    record {
      count = carried_count (least messages) acknowledges;
      carried = map byte_of carried;
      levels = drawing (frame carried acknowledges);
      fates = map (λ message. fate (loss_from 0 carried message)) messages;
    }

-- Every byte of a message is acknowledged; then all of it is carried.
abbrev pub all_acknowledged : List ℕ → List ℕ → Bool
all_acknowledged [] acknowledges = true
all_acknowledged (sent ∷ message) acknowledges =
    eqb (get_or acknowledges 0 0) 0 && all_acknowledged message (drop 1 acknowledges)

-- Refusal 16: the least message's first difference from another is at an ending of either one (a restart or the STOP),
-- and every byte before it is acknowledged. (One master would send a STOP or a restart where another sends something
-- else: document 000 allows no arbitration between these.)
abbrev pub ending_differs : List ℕ → List ℕ → List ℕ → Bool
ending_differs acknowledges [] [] = false
ending_differs acknowledges [] (other ∷ others) = true
ending_differs acknowledges (sent ∷ message) [] = true
ending_differs acknowledges (sent ∷ message) (other ∷ others) =
    cond (eqb sent other) (eqb (get_or acknowledges 0 0) 0 && ending_differs (drop 1 acknowledges) message others)
    (not (beq (restarts sent) (restarts other)))

unfoldable pub undecided : List (List ℕ) → List ℕ → Bool
undecided messages acknowledges = any (ending_differs acknowledges (least messages)) messages
