-- The least of the messages passed so far, and where the next one begins.
use Prim.Native.Nat.{◌≤◌}
use lib.ListN.{length}
use Rattle.arbitration_checks.proofs.LeastMessage.{Leading}
use Rattle.arbitration_checks.proofs.order.locate_least.Given as goal

abbrev pub invariant-loop-i : goal.invariant-loop-i
invariant-loop-i l =
    (l.i ≤ length l.lengths)
    × Leading l.lengths l.sent l.from l.index l.best_from l.best_to l.comparisons l.i
