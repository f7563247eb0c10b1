-- The messages of a request: the first of 12 and 13 that applies, else what they send and their lengths.
use Rattle.std.specs.Prelude.{ℕ, ◌-◌, cond, List, [], ◌++◌, eqb, length, replicate, Result}
use Rattle.laws.specs.declared.Refusal.{Refusal}
use Rattle.laws.specs.Refusals.{given, answer}
use Rattle.arbitration_rules.specs.Reply.{Request, lengths_of, sent_of, messages_of, shape_checks, padded}
use Rattle.arbitration_messages.specs.Marks.{max_sent}
use Rattle.arbitration_messages.specs.declared.Messages.{Messages}

-- what is sent, and past it 256; the lengths, and past them 0
abbrev pub sending : List ℕ → List ℕ → Messages
sending sent lengths =
    record {
      sent = sent ++ replicate (max_sent - length sent) 256;
      size = length sent;
      lengths = padded 0 lengths;
      count = length lengths;
    }

-- acknowledges play no part
unfoldable pub gathered : Request → Result Messages Refusal
gathered request = answer (shape_checks request) (sending (sent_of request) (lengths_of request))

-- the messages of a request that 12 and 13 pass, of another none
unfoldable pub passing : Request → List (List ℕ)
passing request = cond (eqb (given (shape_checks request)).number 0) (messages_of request) []
