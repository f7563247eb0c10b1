-- The night run (02: Ask 14), by rounds of arbitrations, in 02's order.
use Rattle.std.specs.Prelude.{ℕ, zero, suc, Bool, cond, ◌||◌, eqb, ltb, length, take}
use mathlib.Core.List.{List, [], ◌∷◌, ◌++◌, map, zip_with}
use Rattle.std.proofs.Math.Option.{Option, none, some}
use Rattle.laws.specs.declared.Refusal.{Refusal}
use Rattle.laws.specs.Buffer.{filled}
use Rattle.laws.specs.Refusals.{Check, check, given}
use Rattle.laws.specs.Search.{any}
use Rattle.usi.specs.declared.Usi.{Usi}
use Rattle.arbitration_rules.specs.Masters.{Master}
use Rattle.arbitration_rules.specs.Outcome.{ending_differs}
use Rattle.arbitration_rules.specs.Run.{Bus, run}
use Rattle.arbitration_rules.specs.Reply.{Request, messages_of, longest, request_checks}

-- A night between two rounds: the round that carried each message, 0 while it waits; the table of modules; how many
-- rounds there were.
pub record Night : Type 0 where
  pub rounds : List ℕ
  pub table : List Usi
  pub count : ℕ

-- "All plans not yet carried": the messages that wait.
abbrev pub waiting : List ℕ → List (List ℕ) → List (List ℕ)
waiting [] messages = []
waiting (round ∷ rounds) [] = []
waiting (zero ∷ rounds) (message ∷ messages) = message ∷ waiting rounds messages
waiting (suc round ∷ rounds) (message ∷ messages) = waiting rounds messages

-- "With the answers it needs": an acknowledge for each byte of the longest of them.
abbrev pub needed : List (List ℕ) → List ℕ → List ℕ
needed messages acknowledges = take (longest (map length messages)) acknowledges

-- "Each round is a clash of all plans not yet carried, with the answers it needs, from fresh modules."
unfoldable pub arbitration : List (List ℕ) → List ℕ → Night → Bus
arbitration messages acknowledges night =
    let contenders = waiting night.rounds messages in
    run contenders (needed contenders acknowledges)

-- A round carries who is still in at its end. What it leaves of each message: the module of one that it carried,
-- nothing of the others. (A round has a master for each message that waits, in their order.)
abbrev pub left_by : Master → Option Usi
left_by master = cond master.contending (some master.usi) none

abbrev pub carried_by : List ℕ → List Master → List (Option Usi)
carried_by [] masters = []
carried_by (zero ∷ rounds) [] = []
carried_by (zero ∷ rounds) (master ∷ masters) = left_by master ∷ carried_by rounds masters
carried_by (suc round ∷ rounds) masters = none ∷ carried_by rounds masters

-- "A lent slice gets each plan's round, from 1",
abbrev pub round_by : ℕ → ℕ → Option Usi → ℕ
round_by round earlier none = earlier
round_by round earlier (some usi) = round

-- "and the table its module as that round left it."
abbrev pub entered : List (Option Usi) → List Usi → List Usi
entered [] table = table
entered (left ∷ more) [] = []
entered (none ∷ more) (usi ∷ table) = usi ∷ entered more table
entered (some left ∷ more) (usi ∷ table) = left ∷ entered more table

unfoldable pub after_round : List (List ℕ) → List ℕ → Night → Night
after_round messages acknowledges night =
    let carried = carried_by night.rounds (arbitration messages acknowledges night).masters in
    record {
      rounds = zip_with (round_by (suc night.count)) night.rounds carried;
      table = entered carried night.table;
      count = suc night.count;
    }

-- "Until none is left": the night after at most so many rounds.
abbrev pub waits : ℕ → Bool
waits round = eqb round 0

abbrev pub night_after : ℕ → List (List ℕ) → List ℕ → List Usi → Night
night_after zero messages acknowledges table =
    record { rounds = map (λ message. 0) messages; table = table; count = 0 }
night_after (suc most) messages acknowledges table =
    let night = night_after most messages acknowledges table in
    cond (any waits night.rounds) (after_round messages acknowledges night) night

-- As many rounds as there are messages are enough (proofs/Night.antt: none is left after them).
unfoldable pub night_of : List (List ℕ) → List ℕ → List Usi → Night
night_of messages acknowledges table = night_after (length messages) messages acknowledges table

-- 12, 13, 14 and 15 as for one arbitration.
abbrev pub form_checks : Request → List Check
form_checks request = take 4 (request_checks request)

-- 43: an acknowledge (01: answer) 1 anywhere, before any round.
abbrev pub is_one : ℕ → Bool
is_one acknowledge = eqb acknowledge 1

-- 16: two different messages first differ at an ending of either one (a restart or the STOP).
abbrev pub end_apart : List (List ℕ) → Bool
end_apart messages = any (λ message. any (ending_differs [] message) messages) messages

-- 8: the slice for the rounds or the table is shorter than there are messages.
abbrev pub short_room : Request → ℕ → ℕ → Bool
short_room request rounds_room table_room =
    ltb rounds_room (length request.counts) || ltb table_room (length request.counts)

-- The refusals in their order: 12, 13, 14, 15, 43, 16, 8.
abbrev pub night_checks : Request → ℕ → ℕ → List Check
night_checks request rounds_room table_room =
    form_checks request
    ++ check 43 (any is_one request.acknowledges)
    ∷ check 16 (end_apart (messages_of request))
    ∷ check 8 (short_room request rounds_room table_room)
    ∷ []

unfoldable pub night_refusal : Request → ℕ → ℕ → Refusal
night_refusal request rounds_room table_room = given (night_checks request rounds_room table_room)

-- The night that is asked for.
abbrev pub night_for : Request → List Usi → Night
night_for request table = night_of (messages_of request) request.acknowledges table

-- "The reply counts the rounds"; a refused one counts none.
unfoldable pub rounds_counted : Request → Refusal → List Usi → ℕ
rounds_counted request found table = cond (eqb found.number 0) (night_for request table).count 0

-- The lent slice of rounds after it, its rest staying, and the table; at a refusal both as they were.
unfoldable pub rounds_after : Request → Refusal → List Usi → List ℕ → List ℕ
rounds_after request found table buffer =
    cond (eqb found.number 0) (filled (night_for request table).rounds buffer) buffer

unfoldable pub table_after : Request → Refusal → List Usi → List Usi
table_after request found table = cond (eqb found.number 0) (night_for request table).table table
