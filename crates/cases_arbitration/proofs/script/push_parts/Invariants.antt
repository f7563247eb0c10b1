-- `cases_arbitration::script::push_parts` is safe, ends and answers a count of the buffer that is no smaller.
use Prim.Native.Nat.{◌≤◌}
use mathlib.Core.Path.{◌≡◌}
use lib.ListN.{length}
use Rattle.cases_arbitration.proofs.script.push_parts.Given as goal

abbrev pub invariant-loop-part : goal.invariant-loop-part
invariant-loop-part l =
    (l.n ≤ l.next)
    × (l.next ≤ length l.parts)
    × (length l.parts ≡ length l.initial.parts)
