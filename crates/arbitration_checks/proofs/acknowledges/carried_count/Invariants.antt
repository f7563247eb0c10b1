-- The bytes passed so far are acknowledged.
use Rattle.arbitration_checks.proofs.Carried.{Carried}
use Rattle.arbitration_checks.proofs.acknowledges.carried_count.Given as goal

abbrev pub invariant-loop-i : goal.invariant-loop-i
invariant-loop-i l = Carried l.message l.acks l.i
