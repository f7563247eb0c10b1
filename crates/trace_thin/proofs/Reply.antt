-- What thin answers in each case: the capture's refusal, 6, 8, or how many samples are left.
use Prim.Native.Nat.{ℕ}
use mathlib.Core.Path.{◌≡◌, ap, ◌∙◌}
use mathlib.Core.Bool.{false, not}
use mathlib.Core.List.{List}
use lib.Dec.{eqb}
use lib.ListN.{length}
use borrow.Author.Tests.{eqb-true, not-false, eq-eqb}
use Rattle.std.specs.Prelude.{Ok}
use Rattle.std.specs.Result.{result_and}
use Rattle.laws.specs.Search.{any}
use Rattle.laws.specs.Refusals.{answer}
use Rattle.laws.proofs.Refusals.{Passed, passed_ok, answer-in_order}
use Rattle.trace.specs.Samples.{samples}
use Rattle.trace.specs.Trace.{bad_level, Rising}
use Rattle.trace.proofs.Pairs.{rising, rising-back}
use Rattle.trace.proofs.Samples.{levels-again}
use Rattle.trace.specs.Changes.{changes_from, thinned}
use Rattle.trace_thin.specs.ThinReply.{capture_checks, count_left, left_checks, thin_answer}
use Rattle.trace_thin.proofs.Keeping.{thinned-from}

-- a capture that 5, 4 and 7 pass
pub record Captured (stamps levels : List ℕ) : Type 0 where
  pub same : length stamps ≡ length levels
  pub legal : any bad_level levels ≡ false
  pub rises : Rising stamps

pub from_capture : (stamps levels : List ℕ) → Passed (capture_checks stamps levels) → Captured stamps levels
from_capture stamps levels all =
    record {
      same = eqb-true (length stamps) (length levels) (not-false (eqb (length stamps) (length levels)) all.0);
      legal = all.1.0;
      rises = rising stamps all.1.1.0;
    }

pub captured : (stamps levels : List ℕ) (u : Unit {0}) → answer (capture_checks stamps levels) (tt {0}) ≡ Ok u
    → Captured stamps levels
captured stamps levels u passes = from_capture stamps levels (passed_ok (capture_checks stamps levels) tt u passes)

pub to_capture : (stamps levels : List ℕ) → Captured stamps levels → Passed (capture_checks stamps levels)
to_capture stamps levels capture = (
  ap not (eq-eqb (length stamps) (length levels) capture.same),
  (capture.legal, (rising-back stamps capture.rises, tt)),
)

-- what differs from the one before, from a level that no sample has, is what is left
pub left_is : (stamps levels : List ℕ) → Captured stamps levels
    → changes_from 4 (samples stamps levels) ≡ thinned (samples stamps levels)
left_is stamps levels capture =
    thinned-from (samples stamps levels) (rw (levels-again stamps levels capture.same) capture.legal)

-- the checks of what is left come after the capture's
pub in_order : (stamps levels : List ℕ) (stamp_room level_room : ℕ) → thin_answer stamps levels stamp_room level_room
    ≡ result_and (answer (capture_checks stamps levels) (tt {0}))
    (answer (left_checks (count_left stamps levels) stamp_room level_room) (count_left stamps levels))
unfolding thin_answer
in_order stamps levels stamp_room level_room =
    answer-in_order (capture_checks stamps levels) (left_checks (count_left stamps levels) stamp_room level_room) (tt {0})
    (count_left stamps levels)

pub count-is : (stamps levels : List ℕ) (count : ℕ) → Captured stamps levels
    → count ≡ length (changes_from 4 (samples stamps levels)) → count ≡ count_left stamps levels
count-is stamps levels count capture counted = counted ∙ ap length (left_is stamps levels capture)
