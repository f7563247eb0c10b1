-- What decode_in answers in each case: the trace's refusal, or 18, or what decode answers.
use mathlib.Core.Path.{◌≡◌, sym, ◌∙◌}
use mathlib.Core.List.{List, [], ◌∷◌}
use Prim.Native.Nat.{ℕ, ◌≤◌}
use borrow.Author.Tests.{le-ltb}
use lib.Dec.{ltb}
use lib.ListN.{length}
use Rattle.std.specs.Result.{result_and}
use Rattle.laws.specs.Refusals.{Check, check, answer}
use Rattle.laws.proofs.Refusals.{answer-in_order}
use Rattle.trace.specs.Trace.{trace_checks}
use Rattle.decode.specs.Decode.{events}
use Rattle.decode.specs.DecodeReply.{meant, decoded}
use Rattle.decode.proofs.Reply.{in_order as decode_in_order}
use Rattle.phases.specs.declared.Mode.{Mode}
use Rattle.phases.specs.Phases.{first_short}
use Rattle.phases.specs.DecodedIn.{phase_check, decoded_in}

module _ (mode : Mode) (stamps levels : List ℕ) (room : ℕ) where
  -- the check of the lent slice
  abbrev room_check : List Check
  room_check = check 8 (ltb room (length (events levels))) ∷ []

  -- 18 comes after the trace's, and 8 after it
  pub in_order : decoded_in mode stamps levels room
      ≡ result_and (answer (trace_checks stamps levels) (tt {0}))
      (answer (phase_check mode stamps levels ∷ room_check) (meant levels))
  unfolding decoded_in
  in_order =
      answer-in_order (trace_checks stamps levels) (phase_check mode stamps levels ∷ room_check) (tt {0}) (meant levels)

  -- where no phase is too short the mode makes no difference
  pub long-enough : length levels ≤ first_short mode stamps levels
      → decoded_in mode stamps levels room ≡ decoded stamps levels room
  long-enough enough =
      in_order
      ∙ rw (le-ltb (first_short mode stamps levels) (length levels) enough) (sym (decode_in_order stamps levels room))
