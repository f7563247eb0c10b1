-- The table is written entry by entry.
use mathlib.Core.List.{map}
use Rattle.export.specs.Entries.{Numbers}
use Rattle.export.proofs.WrittenTable.{Written}
use Rattle.export.proofs.arbitration_calls.put.Given as goal

abbrev pub invariant-loop-i : goal.invariant-loop-i
invariant-loop-i g l =
    (numbered : _) → Numbers numbered (goal.F-post g l.number)
    → Written (map numbered l.entries) l.initial.table l.table l.i
