-- The refusals in the order that the code decides them.
use Prim.Native.Nat.{ℕ}
use mathlib.Core.Path.{◌≡◌, refl, ap₂, ◌∙◌}
use mathlib.Core.Bool.{true, false, not, ◌||◌}
use mathlib.Core.List.{List, [], ◌∷◌}
use lib.Dec.{eqb}
use lib.ListN.{length, take}
use Rattle.laws.specs.declared.Refusal.{Refusal}
use Rattle.std.specs.Prelude.{Ok, Err}
use Rattle.std.specs.Result.{result_and}
use Rattle.laws.specs.Refusals.{Check, check, check_at, refused_at}
use Rattle.laws.proofs.Refusals.{answer-in_order}
use Rattle.laws.specs.Search.{first, any}
use Rattle.arbitration_rules.specs.Outcome.{least, ending_differs, undecided}
use Rattle.arbitration_rules.specs.Reply.{Request, cut, sent_of, lengths_of, reads, longest, above_one}
use Rattle.arbitration_rules.specs.Reply.{messages_of, bad_acknowledges, shape_checks}
use Rattle.arbitration_messages.specs.declared.Messages.{Messages}
use Rattle.arbitration_messages.specs.Gathered.{sending, gathered}
use Rattle.arbitration_messages.proofs.Whole.{sent-whole, lengths-whole}
use Rattle.arbitration_checks.specs.Settled.{carrying, decided, settled}

-- past 12 and 13
module _ (sent lengths acknowledges : List ℕ) where
  abbrev messages : List (List ℕ)
  messages = cut lengths sent

  pub decided-14 : any reads messages ≡ true
      → Err (refused_at 14 (first reads messages)) ≡ decided sent lengths acknowledges
  unfolding decided
  decided-14 read = rw read

  module _ (write : any reads messages ≡ false) where
    pub decided-15 : not (eqb (length acknowledges) (longest lengths)) || any above_one acknowledges ≡ true
        → Err (refused_at 15 0) ≡ decided sent lengths acknowledges
    unfolding decided
    decided-15 bad = rw (write, bad)

    module _ (good : not (eqb (length acknowledges) (longest lengths)) || any above_one acknowledges ≡ false) where
      pub decided-16 : any (ending_differs acknowledges (least messages)) messages ≡ true
          → Err (refused_at 16 0) ≡ decided sent lengths acknowledges
      unfolding decided undecided
      decided-16 differs = rw (write, good, differs)

      pub decided-run : any (ending_differs acknowledges (least messages)) messages ≡ false
          → Ok (carrying (least messages) acknowledges) ≡ decided sent lengths acknowledges
      unfolding decided undecided
      decided-run alike = rw (write, good, alike)

-- 12 and 13 come before
module _ (request : Request) where
  abbrev later : List Check
  later =
      check_at 14 (any reads (messages_of request)) (first reads (messages_of request))
      ∷ check 15 (bad_acknowledges request)
      ∷ check 16 (undecided (messages_of request) request.acknowledges)
      ∷ []

  in_order : settled request
      ≡ result_and (gathered request) (decided (sent_of request) (lengths_of request) request.acknowledges)
  unfolding settled decided gathered
  in_order =
      answer-in_order (shape_checks request) later (sending (sent_of request) (lengths_of request))
      (carrying (least (messages_of request)) request.acknowledges)

  pub settled-refused : (r : Refusal) → gathered request ≡ Err r → Err r ≡ settled request
  settled-refused r is = rw (in_order, is) refl

  pub settled-decided : (messages : Messages) → gathered request ≡ Ok messages
      → decided (take messages.size messages.sent) (take messages.count messages.lengths) request.acknowledges
      ≡ settled request
  settled-decided messages is =
      ap₂ (λ (sent lengths : List ℕ). decided sent lengths request.acknowledges)
      (sent-whole request messages is) (lengths-whole request messages is)
      ∙ rw (in_order, is) refl
