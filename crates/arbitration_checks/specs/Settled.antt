-- What a request decides: the first of 12 to 16 that applies, else how many bytes the bus will carry and how many
-- levels it will record.
use Rattle.std.specs.Prelude.{ℕ, not, ◌||◌, List, [], ◌∷◌, eqb, length, take, Result}
use Rattle.laws.specs.declared.Refusal.{Refusal}
use Rattle.laws.specs.Refusals.{check, check_at, answer}
use Rattle.laws.specs.Search.{first, any}
use Rattle.arbitration_rules.specs.Outcome.{least, carried_count, level_count, undecided}
use Rattle.arbitration_rules.specs.Reply.{Request, cut, messages_of, reads, longest, above_one, request_checks}
use Rattle.arbitration_checks.specs.declared.Settled.{Settled}

-- of the message that keeps the bus and the acknowledges
abbrev pub carrying : List ℕ → List ℕ → Settled
carrying message acknowledges =
    let count = carried_count message acknowledges in
    record { count = count; levels = level_count (take count message) }

unfoldable pub settled : Request → Result Settled Refusal
settled request =
    answer (request_checks request) (carrying (least (messages_of request)) request.acknowledges)

-- the same past 12 and 13, of messages that lie in what is sent, for a contract inside the crate
unfoldable pub decided : List ℕ → List ℕ → List ℕ → Result Settled Refusal
decided sent lengths acknowledges =
    let messages = cut lengths sent in
    answer
    (check_at 14 (any reads messages) (first reads messages)
    ∷ check 15 (not (eqb (length acknowledges) (longest lengths)) || any above_one acknowledges)
    ∷ check 16 (undecided messages acknowledges)
    ∷ [])
    (carrying (least messages) acknowledges)
