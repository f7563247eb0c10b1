-- What is copied so far.
use Prim.Native.Nat.{◌≤◌, ◌-◌, min}
use mathlib.Core.Path.{◌≡◌}
use mathlib.Core.List.{◌++◌}
use lib.ListN.{take, drop, replicate}
use Rattle.arbitration_rules.specs.Limits.{max_length}
use Rattle.arbitration_members.proofs.messages.row.Given as goal

abbrev pub invariant-loop-i : goal.invariant-loop-i
invariant-loop-i l =
    (l.i ≤ min (l.to - l.from) max_length)
    × (l.out ≡ take l.i (drop l.from l.sent) ++ drop l.i (replicate max_length 256))
