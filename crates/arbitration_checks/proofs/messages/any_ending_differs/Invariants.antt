-- The messages passed so far do not differ from it at an ending.
use Prim.Native.Nat.{◌≤◌}
use lib.ListN.{length}
use Rattle.arbitration_rules.specs.Outcome.{ending_differs}
use Rattle.arbitration_checks.proofs.SearchedMessages.{Searched}
use Rattle.arbitration_checks.proofs.messages.any_ending_differs.Given as goal

abbrev pub invariant-loop-length : goal.invariant-loop-length
invariant-loop-length l = (l.length-index ≤ length l.lengths) × Searched (ending_differs l.acks l.message) l.lengths l.sent l.length-index l.from
