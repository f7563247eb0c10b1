-- The loads passed are counted.
use Prim.Native.Nat.{◌+◌, ◌≤◌}
use mathlib.Core.Path.{◌≡◌}
use Rattle.frame_match.specs.Book.{is_rehearsed}
use Rattle.frame_match.specs.Rows.{between, count}
use Rattle.frame_match.proofs.rows.loads_between.Given as goal

abbrev pub invariant-loop-row : goal.invariant-loop-row
invariant-loop-row l = (l.from ≤ l.row) × (l.loads + l.from ≤ l.row)
    × (count (is_rehearsed l.book) (between l.from l.end) ≡ l.loads + count (is_rehearsed l.book) (between l.row l.end))
