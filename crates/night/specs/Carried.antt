-- What a round carries, from the seats and modules it leaves, for contracts inside the crate.
use Rattle.std.specs.Prelude.{ℕ, zero, suc, ◌+◌, cond, length, take, drop}
use mathlib.Core.List.{List, [], ◌∷◌, ◌++◌, zip_with}
use Rattle.std.proofs.Math.Option.{Option, none, some}
use Rattle.usi.specs.declared.Usi.{Usi}
use Rattle.arbitration_rules.specs.declared.Seat.{Seat}
use Rattle.arbitration_rules.specs.Reply.{Request, messages_of}
use Rattle.night_rules.specs.Night.{Night, round_by, entered, after_round}
use Rattle.night.specs.declared.carried.Standing.{Standing}

-- the seats and modules are those of the messages that wait, one after the other
abbrev pub carried_from : List ℕ → List Seat → List Usi → List (Option Usi)
carried_from [] seats left = []
carried_from (zero ∷ rounds) [] left = []
carried_from (zero ∷ rounds) (seat ∷ seats) [] = []
carried_from (zero ∷ rounds) (seat ∷ seats) (usi ∷ left) =
    cond seat.contending (some usi) none ∷ carried_from rounds seats left
carried_from (suc round ∷ rounds) seats left = none ∷ carried_from rounds seats left

-- the night after a round of the first count messages
unfoldable pub entered_by : ℕ → List Seat → List Usi → Standing → Standing
entered_by count seats left standing =
    let number = standing.count + 1 in
    let before = take count standing.rounds in
    let carried = carried_from before seats left in
    record {
      count = number;
      rounds = zip_with (round_by number) before carried ++ drop count standing.rounds;
      modules = entered carried standing.modules;
    }

-- the night between two rounds, as its definition has it
abbrev pub night_in : Request → Standing → Night
night_in request standing =
    record {
      rounds = take (length request.counts) standing.rounds;
      table = standing.modules;
      count = standing.count;
    }

-- and as the code has it: the rounds past the messages stay
abbrev pub standing_of : Request → List ℕ → Night → Standing
standing_of request rounds night =
    record {
      count = night.count;
      rounds = night.rounds ++ drop (length request.counts) rounds;
      modules = night.table;
    }

-- after the round to come
unfoldable pub standing_after : Request → Standing → Standing
standing_after request standing =
    standing_of request standing.rounds
    (after_round (messages_of request) request.acknowledges (night_in request standing))
