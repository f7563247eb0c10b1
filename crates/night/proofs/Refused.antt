-- The refusals of a night, checked in parts: 12 to 15 as for one arbitration, then 43, 16 and 8.
use Rattle.std.proofs.Common.{◌≡◌, refl, sym, ap, ap₂, ◌∙◌, ℕ, ◌<◌, Bool, true, false, List, [], ◌∷◌}
use native.Mathlib.Omega.{arith}
use lib.ListN.{take}
use Rattle.std.specs.Prelude.{Result, Ok, Err}
use Rattle.std.specs.Result.{result_and}
use Rattle.laws.specs.declared.Refusal.{Refusal}
use Rattle.laws.specs.Refusals.{Check, check, none, refused_at, answer}
use Rattle.laws.specs.Search.{any}
use Rattle.laws.proofs.Refusals.{Passed, passed_first, passed_ok, ok_passed, ok_same, ok_or_err, unrefused}
use Rattle.laws.proofs.Refusals.{err_given, err-numbered, answer-in_order, number-below}
use Rattle.arbitration_rules.specs.Outcome.{least, undecided}
use Rattle.arbitration_rules.specs.Reply.{Request, cut, sent_of, lengths_of, messages_of, shape_checks, request_checks}
use Rattle.arbitration_messages.specs.declared.Messages.{Messages}
use Rattle.arbitration_messages.specs.Gathered.{sending, gathered}
use Rattle.arbitration_messages.proofs.Whole.{sent-whole, lengths-whole}
use Rattle.arbitration_checks.specs.declared.Settled.{Settled}
use Rattle.arbitration_checks.specs.Settled.{carrying, settled}
use Rattle.night_rules.specs.Night.{form_checks, is_one, end_apart, short_room, night_checks, night_refusal}
use Rattle.night_rules.proofs.Accepted.{night-numbered}
use Rattle.night.specs.Admitted.{formed, admitted}

module _ (request : Request) where
  abbrev whole : Messages
  whole = sending (sent_of request) (lengths_of request)

  abbrev run : Settled
  run = carrying (least (messages_of request)) request.acknowledges

  abbrev sixteen : List Check
  sixteen = check 16 (undecided (messages_of request) request.acknowledges) ∷ []

  -- 12 to 16 are 12 to 15, then 16
  in_order : settled request ≡ result_and (formed request) (answer sixteen run)
  unfolding settled formed
  in_order = answer-in_order (form_checks request) sixteen whole run

  -- past 12 to 15 the messages are gathered
  form-gathers : Passed (form_checks request) → gathered request ≡ formed request
  unfolding gathered formed
  form-gathers all =
      ok_passed (shape_checks request) whole (all.0, (all.1.0, tt)) ∙ sym (ok_passed (form_checks request) whole all)

  pub form-passed : (s : Settled) → settled request ≡ Ok s → gathered request ≡ formed request
  unfolding settled
  form-passed s is = form-gathers (passed_first (form_checks request) sixteen (passed_ok (request_checks request) run s is))

  form-below : (r : Refusal) → formed request ≡ Err r → r.number < 16
  unfolding formed
  form-below r is =
      let below =
      number-below 16 (form_checks request) (omega arith)
      (omega arith, (omega arith, (omega arith, (omega arith, tt)))) in
      omega (arith, below, ap (λ (r : Refusal). r.number) (err_given (form_checks request) whole r is))

  -- so where it is 16, none of 12 to 15 applies, and else it is what they give
  pub form-none : (r : Refusal) → settled request ≡ Err r → r.number ≡ 16 → gathered request ≡ formed request
  unfolding formed
  form-none r is number = go (formed request) refl
    where
      go : (answered : Result Messages Refusal) → formed request ≡ answered → gathered request ≡ formed request
      go (Ok m) so = form-gathers (passed_ok (form_checks request) whole m so)
      go (Err first) so =
          let stopped : settled request ≡ Err first = in_order ∙ rw so refl in
          let same : r ≡ first = let both = sym is ∙ stopped in cc in
          absurd (omega (arith, number, ap (λ (r : Refusal). r.number) same, form-below first so))

  pub form-is : (r : Refusal) → settled request ≡ Err r → (r.number ≡ 16 → ⊥) → Err r ≡ formed request
  form-is r is other = go (formed request) refl (undecided (messages_of request) request.acknowledges) refl
    where
      go : (answered : Result Messages Refusal) → formed request ≡ answered
          → (apart : Bool) → undecided (messages_of request) request.acknowledges ≡ apart → Err r ≡ formed request
      go (Err first) so apart differs =
          let stopped : settled request ≡ Err first = in_order ∙ rw so refl in
          let same : r ≡ first = let both = sym is ∙ stopped in cc in
          rw (so, same) refl
      go (Ok m) so true differs =
          let stopped : settled request ≡ Err (refused_at 16 0) = in_order ∙ rw (so, differs) refl in
          let same : r ≡ refused_at 16 0 = let both = sym is ∙ stopped in cc in
          absurd (other (ap (λ (r : Refusal). r.number) same))
      go (Ok m) so false differs =
          let runs : settled request ≡ Ok run = in_order ∙ rw (so, differs) refl in
          absurd (ok_or_err (sym is ∙ runs))

  -- the night's: those, or else 43, 16 and 8
  module _ (rounds_room table_room : ℕ) where
    abbrev rest : List Check
    rest =
        check 43 (any is_one request.acknowledges)
        ∷ check 16 (end_apart (messages_of request))
        ∷ check 8 (short_room request rounds_room table_room)
        ∷ []

    night-parts : admitted request rounds_room table_room ≡ result_and (formed request) (answer rest whole)
    unfolding admitted formed
    night-parts = answer-in_order (form_checks request) rest whole whole

    pub night-form : (r : Refusal) → formed request ≡ Err r → Err r ≡ admitted request rounds_room table_room
    night-form r is = rw (night-parts, is) refl

    module _ (messages : Messages) (is : formed request ≡ Ok messages) where
      -- the messages gathered are those of the request
      pub all-gathered : gathered request ≡ Ok messages
      unfolding formed
      all-gathered = form-gathers (passed_ok (form_checks request) whole messages is) ∙ is

      pub night-rest : (one apart short : Bool) → any is_one request.acknowledges ≡ one
          → end_apart (messages_of request) ≡ apart → short_room request rounds_room table_room ≡ short
          → admitted request rounds_room table_room
          ≡ answer (check 43 one ∷ check 16 apart ∷ check 8 short ∷ []) messages
      unfolding formed
      night-rest one apart short ones ends tight =
          let same = ok_same (form_checks request) whole messages is in
          rw (night-parts, is, ones, ends, tight, same) refl

      pub apart-is : end_apart (cut (take messages.count messages.lengths) (take messages.size messages.sent))
          ≡ end_apart (messages_of request)
      apart-is =
          ap end_apart
          (ap₂ cut (lengths-whole request messages all-gathered) (sent-whole request messages all-gathered))

    -- what is refused, and what is not
    abbrev all_checks : List Check
    all_checks = night_checks request rounds_room table_room

    pub stops : (r : Refusal) → admitted request rounds_room table_room ≡ Err r
        → (r ≡ night_refusal request rounds_room table_room) × (r.number ≡ 0 → ⊥)
    unfolding admitted night_refusal
    stops r is = (
      sym (err_given all_checks whole r is),
      err-numbered all_checks whole r (night-numbered request rounds_room table_room) is,
    )

    pub runs : (messages : Messages) → admitted request rounds_room table_room ≡ Ok messages
        → (none ≡ night_refusal request rounds_room table_room) × (gathered request ≡ Ok messages)
    unfolding admitted night_refusal gathered
    runs messages is =
        let all = passed_ok all_checks whole messages is in
        let same = ok_same all_checks whole messages is in (
          sym (unrefused all_checks all),
          ok_passed (shape_checks request) whole (all.0, (all.1.0, tt)) ∙ ap Ok same,
        )
