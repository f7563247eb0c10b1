-- `cases_arbitration::script::read_messages` is safe, ends and answers a count of each buffer.
use Prim.Native.Nat.{◌≤◌}
use mathlib.Core.Path.{◌≡◌}
use lib.ListN.{length}
use Rattle.cases_arbitration.proofs.script.read_messages.Given as goal

abbrev pub invariant-loop-n : goal.invariant-loop-n
invariant-loop-n l =
    (l.at ≤ length l.parts)
    × (length l.parts ≡ length l.initial.parts)
    × (length l.counts ≡ length l.initial.counts)
