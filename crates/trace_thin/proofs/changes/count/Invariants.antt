-- The samples passed are counted where they differ from the one before.
use mathlib.Core.Path.{◌≡◌}
use mathlib.Core.List.{List}
use Prim.Native.Nat.{ℕ, ◌≤◌}
use lib.ListN.{length, drop}
use Rattle.laws.proofs.Buffer.{Progress}
use Rattle.trace.specs.Samples.{samples}
use Rattle.trace.specs.Changes.{changes_from}
use Rattle.trace_thin.proofs.changes.count.Given as goal

abbrev pub invariant-loop-level : goal.invariant-loop-level
invariant-loop-level l = (l.found ≤ l.level-index) × ((stamps : List ℕ) → length stamps ≡ length l.levels
    → Progress (changes_from 4 (samples stamps l.levels)) (changes_from l.last (drop l.level-index (samples stamps l.levels))) l.found)
