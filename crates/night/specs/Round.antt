-- One round as the code makes it, for contracts inside the crate.
use Rattle.std.specs.Prelude.{ℕ, ◌≡◌, true, length, take}
use mathlib.Core.List.{List, map, zip_with}
use Rattle.laws.specs.Buffer.{filled}
use Rattle.laws.specs.Search.{any}
use Rattle.usi.specs.declared.Usi.{Usi}
use Rattle.arbitration_rules.specs.Limits.{max_masters}
use Rattle.arbitration_rules.specs.Cleared.{cleared_by}
use Rattle.arbitration_rules.specs.Masters.{Master}
use Rattle.arbitration_rules.specs.Run.{Bus, run}
use Rattle.arbitration_rules.specs.Reply.{Request, messages_of, lengths_of, padded, absent, seat_of}
use Rattle.arbitration.specs.declared.Rehearsed.{Rehearsed}
use Rattle.night_rules.specs.Night.{waiting, needed, waits, night_refusal}

-- the messages that wait, the acknowledges they need, and their arbitration
abbrev pub contenders : Request → List ℕ → List (List ℕ)
contenders request rounds = waiting rounds (messages_of request)

abbrev pub heard : Request → List ℕ → List ℕ
heard request rounds = needed (contenders request rounds) request.acknowledges

abbrev pub contest_of : Request → List ℕ → Bus
contest_of request rounds = run (contenders request rounds) (heard request rounds)

-- a round is due: nothing refuses the night, someone waits, and these are the lengths of its messages
pub record Due (request : Request) (lengths rounds : List ℕ) : Type 0 where
  pub unrefused : (night_refusal request max_masters max_masters).number ≡ 0
  pub someone : any waits (take (length request.counts) rounds) ≡ true
  pub long : lengths ≡ lengths_of request

-- what its arbitration shows: the seats and the modules of the messages that wait, one after the other
pub record Contested (request : Request) (rounds : List ℕ) (modules : List Usi) (shown : Rehearsed) : Type 0 where
  pub seats : shown.reply.seats
      ≡ padded absent
      (zip_with seat_of (cleared_by (contenders request rounds) (heard request rounds))
      (contest_of request rounds).masters)
  pub left : shown.modules
      ≡ filled (map (λ (master : Master). master.usi) (contest_of request rounds).masters) modules
