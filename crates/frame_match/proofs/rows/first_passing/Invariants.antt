-- No row passed passes the test.
use mathlib.Core.Bool.{Bool}
use mathlib.Core.Path.{◌≡◌}
use Prim.Native.Nat.{ℕ, max, ◌≤◌}
use Rattle.frame_match.specs.Rows.{first_row}
use Rattle.frame_match.proofs.rows.first_passing.Given as goal

abbrev pub invariant-loop-row : goal.invariant-loop-row
invariant-loop-row g l = (l.row ≤ max l.from l.end) × ((test : ℕ → Bool)
    → ((row : ℕ) (passed : Bool) → g.F.Fn.post l.passes (row, tt) passed → passed ≡ test row)
    → first_row test l.from l.end ≡ first_row test l.row l.end)
