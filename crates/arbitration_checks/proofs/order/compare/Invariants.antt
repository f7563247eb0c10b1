-- What is in common is passed; the first that differs decides, or the end of one.
use Rattle.arbitration_checks.proofs.Alike.{Shared}
use Rattle.arbitration_checks.proofs.order.compare.Given as goal

abbrev pub invariant-loop-i : goal.invariant-loop-i
invariant-loop-i l = Shared l.message l.other l.i
