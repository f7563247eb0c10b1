-- Two messages compared from the front: what holds at the loop's head, and what a turn finds.
use Prim.Native.Nat.{ℕ, suc, ◌+◌, ◌<◌, ◌≤◌}
use mathlib.Core.Path.{◌≡◌, refl, sym, ap, ap₂, ◌∙◌}
use mathlib.Core.Bool.{Bool, true, false, not, or-false}
use mathlib.Core.List.{List, ◌∷◌}
use native.Mathlib.Nat.{le_of_eq}
use native.Mathlib.Numerals.{add-one}
use native.Mathlib.Omega.{arith}
use borrow.Author.Tests.{eq-eqb, ne_eqb, le-ltb, ltb-true, ltb-false, le-leb, lt-leb}
use lib.Dec.{ltb, leb}
use lib.ListN.{length, get_or, drop, drop_of_length-le}
use lib.Seq.{drop-cons}
use Rattle.arbitration_rules.specs.Outcome.{restarts, at_most}
use Rattle.arbitration_checks.specs.Order.{compared_of}
use Rattle.arbitration_checks.specs.declared.order.Compared.{Compared}

-- a byte without a restart
not-restarts : (sent : ℕ) → leb 256 sent ≡ not (restarts sent)
not-restarts sent = go (restarts sent) refl
  where
    go : (again : Bool) → restarts sent ≡ again → leb 256 sent ≡ not again
    go true is = lt-leb 256 sent (ltb-true sent 256 is)
    go false is = le-leb 256 sent (ltb-false sent 256 is)

-- the first i of both are the same
pub record Shared (message other : List ℕ) (i : ℕ) : Type 0 where
  pub within : i ≤ length message
  pub within-other : i ≤ length other
  pub same : at_most message other ≡ at_most (drop i message) (drop i other)

pub shared_start : (message other : List ℕ) → Shared message other 0
shared_start message other = record { within = omega arith; within-other = omega arith; same = refl }

module _ (message other : List ℕ) (count i : ℕ) (shared : Shared message other i) where
  -- an answer, this comparison counted
  abbrev answer : Bool → Compared
  answer precedes = record { precedes = precedes; comparisons = count + 1 }

  abbrev sent : ℕ
  sent = get_or message i 0

  abbrev its : ℕ
  its = get_or other i 0

  answered : (precedes : Bool) → at_most message other ≡ precedes → answer precedes ≡ compared_of message other count
  answered precedes is = ap answer (sym is)

  module _ (done : length message ≤ i) where
    pub shared-end : length other ≤ i → answer true ≡ compared_of message other count
    shared-end all =
        answered true (shared.same ∙ ap₂ at_most (drop_of_length-le message done) (drop_of_length-le other all))

    pub shared-stop : i < length other → answer (leb 256 its) ≡ compared_of message other count
    shared-stop less =
        answered (leb 256 its)
        (shared.same
        ∙ ap₂ at_most (drop_of_length-le message done) (drop-cons other i 0 less)
        ∙ sym (not-restarts its))

  module _ (less : i < length message) where
    next : drop i message ≡ sent ∷ drop (suc i) message
    next = drop-cons message i 0 less

    pub shared-other-end : i ≡ length other → answer (restarts sent) ≡ compared_of message other count
    shared-other-end done =
        let done-other : length other ≤ i = omega arith in
        answered (restarts sent) (shared.same ∙ ap₂ at_most next (drop_of_length-le other done-other))

    module _ (less_other : i < length other) where
      here : at_most message other ≡ at_most (sent ∷ drop (suc i) message) (its ∷ drop (suc i) other)
      here = shared.same ∙ ap₂ at_most next (drop-cons other i 0 less_other)

      pub shared-more : sent ≡ its → Shared message other (i + 1)
      shared-more equal =
          let not-less = le-ltb sent its (le_of_eq (sym equal)) in
          record {
            within = omega arith;
            within-other = omega arith;
            same = rw (add-one i) (rw (not-less, eq-eqb _ _ equal) at here);
          }

      pub shared-differ : (sent ≡ its → ⊥) → answer (ltb sent its) ≡ compared_of message other count
      shared-differ unequal = answered (ltb sent its) (rw (ne_eqb _ _ unequal, or-false) at here)
