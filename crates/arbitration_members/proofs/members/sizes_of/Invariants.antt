-- So many are copied from the front.
use Prim.Native.Nat.{◌≤◌, min}
use mathlib.Core.Path.{◌≡◌}
use mathlib.Core.List.{◌++◌}
use lib.ListN.{length, take, drop, replicate}
use Rattle.arbitration_rules.specs.Limits.{max_masters}
use Rattle.arbitration_members.proofs.members.sizes_of.Given as goal

abbrev pub invariant-loop-i : goal.invariant-loop-i
invariant-loop-i l =
    (l.i ≤ min (length l.lengths) max_masters)
    × (l.out ≡ take l.i l.lengths ++ drop l.i (replicate max_masters 0))
