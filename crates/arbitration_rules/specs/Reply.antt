-- What arbitrate answers: the refusals 12, 13, 14, 15, 16, 8 in that order with their places, else the run; and the
-- table of modules and the two buffers.
use Rattle.std.specs.Prelude.{ℕ, zero, suc, ◌+◌, ◌-◌, max, Bool, cond, false, not, ◌&&◌, ◌||◌, eqb, ltb, length, get_or, take, drop, replicate}
use mathlib.Core.List.{List, [], ◌∷◌, ◌++◌, map, zip_with}
use Rattle.bits.specs.Positions.{is_set}
use Rattle.laws.specs.declared.Refusal.{Refusal}
use Rattle.laws.specs.Buffer.{filled}
use Rattle.laws.specs.Refusals.{Check, check, check_at, given, none}
use Rattle.laws.specs.Search.{first, any}
use Rattle.usi.specs.declared.Usi.{Usi}
use Rattle.arbitration_rules.specs.declared.Arbitrated.{Arbitrated}
use Rattle.arbitration_rules.specs.declared.Seat.{Seat}
use Rattle.arbitration_rules.specs.Limits.{max_masters, max_length}
use Rattle.arbitration_rules.specs.Masters.{Master}
use Rattle.arbitration_rules.specs.Outcome.{restarts, undecided}
use Rattle.arbitration_rules.specs.Run.{Bus, run}
use Rattle.arbitration_rules.specs.Cleared.{cleared_by}

-- What is asked: the bytes of all messages one after the other; the length of every part, message after message; how
-- many parts each message has; the acknowledges (01: answers).
pub record Request : Type 0 where
  pub bytes : List ℕ
  pub parts : List ℕ
  pub counts : List ℕ
  pub acknowledges : List ℕ

abbrev pub asked : List ℕ → List ℕ → List ℕ → List ℕ → Request
asked bytes parts counts acknowledges =
    record { bytes = bytes; parts = parts; counts = counts; acknowledges = acknowledges }

-- Lists that lie one after the other in one, each of its length.
abbrev pub cut : List ℕ → List ℕ → List (List ℕ)
cut [] list = []
cut (count ∷ counts) list = take count list ∷ cut counts (drop count list)

-- Lists put so into one.
abbrev pub joined : List (List ℕ) → List ℕ
joined [] = []
joined (list ∷ lists) = list ++ joined lists

abbrev pub total : List ℕ → ℕ
total [] = 0
total (count ∷ counts) = count + total counts

-- The lengths of each message's parts, as many as there are; a message has as many bytes as they say together.
abbrev pub parts_of : Request → List (List ℕ)
parts_of request = cut request.counts request.parts

abbrev pub lengths_of : Request → List ℕ
lengths_of request = map total (parts_of request)

-- What stands before a byte: 0 for a restart, which every part but a message's first begins with, else 256.
abbrev pub marks_after : List ℕ → List ℕ
marks_after [] = []
marks_after (zero ∷ parts) = marks_after parts
marks_after (suc more ∷ parts) = 0 ∷ replicate more 256 ++ marks_after parts

abbrev pub marks_of : List ℕ → List ℕ
marks_of [] = []
marks_of (part ∷ parts) = replicate part 256 ++ marks_after parts

abbrev pub all_marks : List (List ℕ) → List ℕ
all_marks [] = []
all_marks (parts ∷ more) = marks_of parts ++ all_marks more

-- What the messages send, one after the other, and the messages.
abbrev pub sent_of : Request → List ℕ
sent_of request = zip_with ◌+◌ request.bytes (all_marks (parts_of request))

abbrev pub messages_of : Request → List (List ℕ)
messages_of request = cut (lengths_of request) (sent_of request)

-- 12: no message, or more than sixteen.
abbrev pub bad_count : Request → Bool
bad_count request = eqb (length request.counts) 0 || ltb max_masters (length request.counts)

-- 13: a message of no part, with an empty part or of over 64 bytes; or counts that don't sum to the parts lent, or
-- parts that don't sum to the bytes lent. Its place: the first such message, else how many there are.
abbrev pub is_empty : ℕ → Bool
is_empty part = eqb part 0

abbrev pub bad_message : ℕ → List ℕ → Bool
bad_message count parts = is_empty count || any is_empty parts || ltb max_length (total parts)

abbrev pub bad_messages : Request → List Bool
bad_messages request = zip_with bad_message request.counts (parts_of request)

abbrev pub itself : Bool → Bool
itself bad = bad

abbrev pub bad_lengths : Request → Bool
bad_lengths request =
    any itself (bad_messages request)
    || not (eqb (total request.counts) (length request.parts))
    || not (eqb (total request.parts) (length request.bytes))

-- 14: the first byte of a part is odd (a read). Its place: the first such message.
abbrev pub reads_again : ℕ → Bool
reads_again sent = restarts sent && is_set 0 sent

abbrev pub reads : List ℕ → Bool
reads message = is_set 0 (get_or message 0 0) || any reads_again message

-- 15: the number of acknowledges is wrong (as many as the longest message has bytes), or one is above 1.
abbrev pub longest : List ℕ → ℕ
longest [] = 0
longest (count ∷ counts) = max count (longest counts)

abbrev pub above_one : ℕ → Bool
above_one acknowledge = ltb 1 acknowledge

abbrev pub bad_acknowledges : Request → Bool
bad_acknowledges request =
    not (eqb (length request.acknowledges) (longest (lengths_of request))) || any above_one request.acknowledges

-- Those that the lengths and counts decide, 12 and 13; and all that the request alone decides, 12 to 16.
abbrev pub shape_checks : Request → List Check
shape_checks request =
    check 12 (bad_count request) ∷ check_at 13 (bad_lengths request) (first itself (bad_messages request)) ∷ []

abbrev pub request_checks : Request → List Check
request_checks request =
    shape_checks request
    ++ check_at 14 (any reads (messages_of request)) (first reads (messages_of request))
    ∷ check 15 (bad_acknowledges request)
    ∷ check 16 (undecided (messages_of request) request.acknowledges)
    ∷ []

-- The run that is asked for.
abbrev pub run_of : Request → Bus
run_of request = run (messages_of request) request.acknowledges

-- 8: a lent slice is shorter than the reply needs: a buffer than what the run carries, or records; or a table that has
-- no entry for each message.
abbrev pub short_buffer : Bus → ℕ → ℕ → Bool
short_buffer bus carried_room level_room =
    ltb carried_room (length bus.carried) || ltb level_room (length bus.levels)

abbrev pub short_slice : Request → ℕ → ℕ → ℕ → Bool
short_slice request table_room carried_room level_room =
    short_buffer (run_of request) carried_room level_room || ltb table_room (length request.counts)

-- The first of them that applies, in the order 12, 13, 14, 15, 16, 8.
unfoldable pub refusal : Request → ℕ → ℕ → ℕ → Refusal
refusal request table_room carried_room level_room =
    given (request_checks request ++ check 8 (short_slice request table_room carried_room level_room) ∷ [])

-- In a refused reply every other number is 0.
abbrev pub absent : Seat
absent = record { contending = false; position = 0; cleared = 0 }

unfoldable pub refused : Refusal → Arbitrated
refused found =
    record { refusal = found; count = 0; seats = replicate max_masters absent }

-- What a run replies. Where there is no message nobody is in.
abbrev pub padded : {A : Type 0} → A → List A → List A
padded empty list = list ++ replicate (max_masters - length list) empty

abbrev pub seat_of : ℕ → Master → Seat
seat_of cleared master =
    record { contending = master.contending; position = master.position; cleared = cleared }

unfoldable pub answered : List ℕ → Bus → Arbitrated
answered cleared bus =
    record {
      refusal = none;
      count = length bus.carried;
      seats = padded absent (zip_with seat_of cleared bus.masters);
    }

-- The reply of arbitrate, over what is asked and the lengths of the table and of the two buffers.
unfoldable pub arbitrated : Request → ℕ → ℕ → ℕ → Arbitrated
arbitrated request table_room carried_room level_room =
    let found = refusal request table_room carried_room level_room in
    cond (eqb found.number 0)
    (answered (cleared_by (messages_of request) request.acknowledges) (run_of request))
    (refused found)

-- The table after it: the modules of the run, one for each message, and the rest as it was; at a refusal all as it
-- was.
unfoldable pub table_after : Request → Refusal → List Usi → List Usi
table_after request found table =
    cond (eqb found.number 0) (filled (map (λ (master : Master). master.usi) (run_of request).masters) table) table

-- A buffer after it: what the run gives, and the rest as it was; at a refusal all as it was.
unfoldable pub carried_after : Request → Refusal → List ℕ → List ℕ
carried_after request found buffer = cond (eqb found.number 0) (filled (run_of request).carried buffer) buffer

unfoldable pub levels_after : Request → Refusal → List ℕ → List ℕ
levels_after request found buffer = cond (eqb found.number 0) (filled (run_of request).levels buffer) buffer
