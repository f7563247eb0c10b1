-- The lengths of the messages passed so far, and where the next one's parts begin.
use Prim.Native.Nat.{◌≤◌}
use mathlib.Core.Path.{◌≡◌}
use mathlib.Core.List.{◌++◌, map}
use lib.ListN.{length, take, drop, replicate}
use Rattle.arbitration_rules.specs.Limits.{max_masters}
use Rattle.arbitration_rules.specs.Reply.{cut}
use Rattle.arbitration_messages.specs.Lengths.{limited}
use Rattle.arbitration_messages.proofs.Walk.{At}
use Rattle.arbitration_messages.proofs.lengths.lengths_of.Given as goal

abbrev pub invariant-loop-i : goal.invariant-loop-i
invariant-loop-i l = (l.i ≤ length l.counts) × At l.counts l.parts l.i l.from
    × (l.lengths ≡ map limited (take l.i (cut l.counts l.parts)) ++ drop l.i (replicate max_masters 0))
