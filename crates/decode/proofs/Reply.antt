-- What decode answers in each case: the trace's refusal, or 8, or the events.
use Rattle.std.proofs.Common.{◌≡◌, List, [], ◌∷◌, ℕ, length, nat_lt}
use Rattle.std.specs.Result.{result_and}
use Rattle.laws.specs.Refusals.{Check, check, answer}
use Rattle.laws.proofs.Refusals.{answer-in_order}
use Rattle.trace.specs.Trace.{trace_checks}
use Rattle.decode.specs.Decode.{events}
use Rattle.decode.specs.DecodeReply.{meant, decoded}

module _ (stamps levels : List ℕ) (room : ℕ) where
  abbrev room_check : List Check
  room_check = check 8 (nat_lt room (length (events levels))) ∷ []

  -- 8 comes after all others
  pub in_order : decoded stamps levels room
      ≡ result_and (answer (trace_checks stamps levels) (tt {0})) (answer room_check (meant levels))
  unfolding decoded
  in_order = answer-in_order (trace_checks stamps levels) room_check (tt {0}) (meant levels)
