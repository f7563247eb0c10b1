-- The messages passed so far ask for no read.
use Prim.Native.Nat.{◌≤◌}
use lib.ListN.{length}
use Rattle.arbitration_rules.specs.Reply.{reads}
use Rattle.arbitration_checks.proofs.SearchedMessages.{Searched}
use Rattle.arbitration_checks.proofs.messages.first_read.Given as goal

abbrev pub invariant-loop-i : goal.invariant-loop-i
invariant-loop-i l = (l.i ≤ length l.lengths) × Searched reads l.lengths l.sent l.i l.from
