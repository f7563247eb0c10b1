-- The verdict of a load: from the reply of arbitrate, the messages (01: plans) and the acknowledges (01: answers).
use Rattle.std.specs.Prelude.{ℕ, Bool, cond, ◌&&◌, List, [], ◌∷◌, eqb, length}
use Rattle.laws.specs.Search.{all}
use Rattle.laws.specs.Same.{same}
use Rattle.arbitration_rules.specs.declared.Arbitrated.{Arbitrated}
use Rattle.arbitration_rules.specs.declared.Seat.{Seat}
use Rattle.arbitration_rules.specs.Outcome.{all_acknowledged}
use Rattle.arbitration_rules.specs.Reply.{Request}
use Rattle.arbitration_messages.specs.Gathered.{passing}
use Rattle.verdict.specs.declared.Verdict.{Verdict}
use Rattle.verdict.specs.declared.Verdict.TheVariants.{Refused, Undecided, Cut, Sent}

-- The messages of the boards that are still in, in their order. Messages past the sixteen seats don't count.
abbrev pub still_in : Seat → Bool
still_in seat = seat.contending

abbrev pub contenders : List Seat → List (List ℕ) → List (List ℕ)
contenders [] messages = []
contenders (seat ∷ seats) [] = []
contenders (seat ∷ seats) (message ∷ messages) =
    cond (still_in seat) (message ∷ contenders seats messages) (contenders seats messages)

-- The winner's message is sent where every byte of it was carried and acknowledged; else it was cut short after the
-- bytes that were carried (01: k).
unfoldable pub ended : List ℕ → ℕ → List ℕ → Verdict
ended winner count acknowledges =
    cond (eqb count (length winner) && all_acknowledged winner acknowledges) (Sent (length winner)) (Cut count)

-- Of those still in, the first is the winner where all have its message; where two differ nothing is decided.
abbrev pub decided : List (List ℕ) → ℕ → List ℕ → Verdict
decided [] count acknowledges = Undecided
decided (winner ∷ others) count acknowledges =
    cond (all (same winner) others) (ended winner count acknowledges) Undecided

-- A refused load has the refusal's number.
unfoldable pub verdict_of : Arbitrated → List (List ℕ) → List ℕ → Verdict
verdict_of reply messages acknowledges =
    cond (eqb reply.refusal.number 0)
    (decided (contenders reply.seats messages) reply.count acknowledges)
    (Refused reply.refusal.number)

-- That of a reply to a request. Where 12 or 13 applies there is no message.
abbrev pub verdict_for : Arbitrated → Request → Verdict
verdict_for reply request = verdict_of reply (passing request) request.acknowledges
