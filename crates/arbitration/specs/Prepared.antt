-- What is decided before anything is written, and the reply of a run in the end.
use Rattle.std.specs.Prelude.{ℕ, Bool, ◌||◌, [], ◌∷◌, ◌++◌, ltb, Result}
use Rattle.laws.specs.declared.Refusal.{Refusal}
use Rattle.laws.specs.Refusals.{check, none, answer}
use Rattle.arbitration_rules.specs.declared.Arbitrated.{Arbitrated}
use Rattle.arbitration_rules.specs.Reply.{Request, lengths_of, messages_of, request_checks, short_slice}
use Rattle.arbitration_run.specs.declared.sequencer.Sequencer.{Sequencer}
use Rattle.arbitration_members.specs.Members.{seats}
use Rattle.arbitration_members.specs.Rows.{rows_of}
use Rattle.arbitration_run.specs.Sequence.{first}
use Rattle.arbitration.specs.declared.prepare.Prepared.{Prepared}

-- a lent slice is too short for so many masters, bytes and levels
abbrev pub Short : ℕ → ℕ → ℕ → ℕ → ℕ → ℕ → Bool
Short masters count needed table_room carried_room level_room =
    ltb carried_room count || ltb level_room needed || ltb table_room masters

-- the sequencer before its first turn, and the messages
abbrev pub begun : Request → Prepared
begun request = record { first = first (lengths_of request); rows = rows_of (messages_of request) }

-- those of a run, where nothing refuses it
unfoldable pub prepared : Request → ℕ → ℕ → ℕ → Result Prepared Refusal
prepared request table_room carried_room level_room =
    answer (request_checks request ++ check 8 (short_slice request table_room carried_room level_room) ∷ [])
    (begun request)

-- the reply of a run that ended so
unfoldable pub replied_by : Sequencer → ℕ → Arbitrated
replied_by ended count =
    record {
      refusal = none;
      count = ended.sent;
      seats = seats ended.members.contending ended.members.positions count;
    }
