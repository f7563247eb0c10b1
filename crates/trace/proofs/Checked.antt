-- What no refusal of a trace says of it.
use Prim.Native.Nat.{ℕ, ◌≤◌}
use mathlib.Core.Path.{◌≡◌, ap}
use mathlib.Core.Bool.{false, not}
use mathlib.Core.List.{List}
use native.Mathlib.Omega.{arith}
use lib.Dec.{eqb}
use lib.ListN.{length}
use borrow.Author.Tests.{eqb-true, ltb-false, not-false, eq-eqb, le-ltb}
use Rattle.laws.specs.Search.{any}
use Rattle.std.specs.Prelude.{Ok}
use Rattle.laws.specs.Refusals.{answer}
use Rattle.laws.proofs.Refusals.{Passed, Numbered, passed_ok}
use Rattle.trace.specs.Limits.{max_samples}
use Rattle.trace.specs.Trace.{bad_level, trace_checks, Rising}
use Rattle.trace.proofs.Pairs.{rising, rising-back}

pub trace-numbered : (stamps levels : List ℕ) → Numbered (trace_checks stamps levels)
trace-numbered stamps levels =
    ((λ e. omega arith), ((λ e. omega arith), ((λ e. omega arith), ((λ e. omega arith), tt))))

-- a trace that is not refused: as many stamps as levels, within the limit, no level above 3, stamps that rise
pub record Checked (stamps levels : List ℕ) : Type 0 where
  pub same : length stamps ≡ length levels
  pub few : length levels ≤ max_samples
  pub legal : any bad_level levels ≡ false
  pub rises : Rising stamps

pub from-checks : (stamps levels : List ℕ) → Passed (trace_checks stamps levels) → Checked stamps levels
from-checks stamps levels all =
    record {
      same = eqb-true (length stamps) (length levels) (not-false (eqb (length stamps) (length levels)) all.0);
      few = ltb-false max_samples (length levels) all.1.0;
      legal = all.1.1.0;
      rises = rising stamps all.1.1.1.0;
    }

pub checked : {A : Type 0} (stamps levels : List ℕ) (a b : A)
    → answer (trace_checks stamps levels) a ≡ Ok b → Checked stamps levels
checked stamps levels a b passed =
    from-checks stamps levels (passed_ok (trace_checks stamps levels) a b passed)

-- and the other way round
pub to-checks : {stamps levels : List ℕ} → Checked stamps levels → Passed (trace_checks stamps levels)
to-checks {stamps} {levels} trace = (
  ap not (eq-eqb (length stamps) (length levels) trace.same),
  (le-ltb max_samples (length levels) trace.few, (trace.legal, (rising-back stamps trace.rises, tt))),
)
