-- What is decided before anything is written: a refusal, or what is to run.
use Rattle.std.proofs.Common.{◌≡◌, refl, sym, ap, ◌∙◌, ℕ, true, false, List, [], ◌∷◌, ◌++◌, length}
use native.Mathlib.Omega.{arith}
use Rattle.std.specs.Prelude.{Ok, Err}
use Rattle.std.specs.Result.{result_and}
use Rattle.laws.specs.declared.Refusal.{Refusal}
use Rattle.laws.specs.Refusals.{Check, check, refused_at, answer}
use Rattle.laws.proofs.Refusals.{answer-in_order, err_given, err-numbered, unrefused, passed_ok, ok_same}
use Rattle.laws.proofs.Refusals.{Numbered, numbered-both}
use Rattle.arbitration_rules.specs.Outcome.{least}
use Rattle.arbitration_rules.specs.Reply.{Request, messages_of, shape_checks, request_checks, refusal}
use Rattle.arbitration_rules.proofs.Accepted.{request-numbered}
use Rattle.arbitration_rules.proofs.Pieces.{Bytes}
use Rattle.arbitration_messages.specs.Gathered.{sending, gathered}
use Rattle.arbitration_messages.proofs.Whole.{shape-numbered}
use Rattle.arbitration_rules.specs.Reply.{sent_of, lengths_of}
use Rattle.arbitration_checks.specs.declared.Settled.{Settled}
use Rattle.arbitration_checks.specs.Settled.{carrying, settled}
use Rattle.arbitration.specs.declared.prepare.Prepared.{Prepared}
use Rattle.arbitration.specs.Prepared.{Short, begun, prepared}
use Rattle.arbitration.proofs.Given.{settled-none, shaped, short-is, lacks}

module _ (request : Request) (table_room carried_room level_room : ℕ) where
  abbrev last : List Check
  last = check 8 (lacks request table_room carried_room level_room) ∷ []

  -- 12 to 16, and then 8
  in_order : prepared request table_room carried_room level_room
      ≡ result_and (settled request) (answer last (begun request))
  unfolding prepared settled
  in_order =
      answer-in_order (request_checks request) last (carrying (least (messages_of request)) request.acknowledges)
      (begun request)

  pub stopped-before : (r : Refusal) → settled request ≡ Err r
      → Err r ≡ prepared request table_room carried_room level_room
  stopped-before r is = rw (in_order, is) refl

  -- past 12 to 16
  module _ (small : Bytes request.bytes) (run : Settled) (passes : settled request ≡ Ok run) where
    room-is : Short (length request.counts) run.count run.levels table_room carried_room level_room
        ≡ lacks request table_room carried_room level_room
    room-is =
        let two = settled-none request run passes in
        rw (← two.1) (short-is request small two.0 table_room carried_room level_room)

    pub no-room : Short (length request.counts) run.count run.levels table_room carried_room level_room ≡ true
        → Err (refused_at 8 0) ≡ prepared request table_room carried_room level_room
    no-room is = rw (in_order, passes, ← room-is, is) refl

    pub all-room : Short (length request.counts) run.count run.levels table_room carried_room level_room ≡ false
        → Ok (begun request) ≡ prepared request table_room carried_room level_room
    all-room is = rw (in_order, passes, ← room-is, is) refl

    -- the messages are gathered
    pub gathers : (r : Refusal) → gathered request ≡ Err r → ⊥
    unfolding gathered
    gathers r is =
        let whole = sending (sent_of request) (lengths_of request) in
        let same = err_given (shape_checks request) whole r is in
        err-numbered (shape_checks request) whole r (shape-numbered request) is
        (ap (λ (found : Refusal). found.number) (sym same) ∙ shaped request small (settled-none request run passes).0)

  abbrev all_checks : List Check
  all_checks = request_checks request ++ last

  all-numbered : Numbered all_checks
  all-numbered = numbered-both (request_checks request) last (request-numbered request) ((λ e. omega arith), tt)

  -- what is prepared runs
  pub runs : (ready : Prepared) → prepared request table_room carried_room level_room ≡ Ok ready
      → ((refusal request table_room carried_room level_room).number ≡ 0) × (begun request ≡ ready)
  unfolding prepared refusal
  runs ready is =
      let none-applies = unrefused all_checks (passed_ok all_checks (begun request) ready is) in
      (ap (λ (r : Refusal). r.number) none-applies, ok_same all_checks (begun request) ready is)

  pub stops : (r : Refusal) → prepared request table_room carried_room level_room ≡ Err r
      → (refusal request table_room carried_room level_room ≡ r) × (r.number ≡ 0 → ⊥)
  unfolding prepared refusal
  stops r is =
      (err_given all_checks (begun request) r is, err-numbered all_checks (begun request) r all-numbered is)
