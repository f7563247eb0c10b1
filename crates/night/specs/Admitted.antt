-- The messages of a night that no refusal turns down, for contracts inside the crate.
use Rattle.std.specs.Prelude.{ℕ, Result}
use Rattle.laws.specs.declared.Refusal.{Refusal}
use Rattle.laws.specs.Refusals.{answer}
use Rattle.arbitration_rules.specs.Reply.{Request, sent_of, lengths_of}
use Rattle.arbitration_messages.specs.declared.Messages.{Messages}
use Rattle.arbitration_messages.specs.Gathered.{sending}
use Rattle.night_rules.specs.Night.{form_checks, night_checks}

-- past 12 to 15
unfoldable pub formed : Request → Result Messages Refusal
formed request = answer (form_checks request) (sending (sent_of request) (lengths_of request))

-- past all
unfoldable pub admitted : Request → ℕ → ℕ → Result Messages Refusal
admitted request rounds_room table_room =
    answer (night_checks request rounds_room table_room) (sending (sent_of request) (lengths_of request))
