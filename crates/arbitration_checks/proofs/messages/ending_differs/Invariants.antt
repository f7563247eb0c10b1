-- What is in common and acknowledged is passed; the first that differs decides, or the end of one.
use Rattle.arbitration_checks.proofs.Endings.{Together}
use Rattle.arbitration_checks.proofs.messages.ending_differs.Given as goal

abbrev pub invariant-loop-i : goal.invariant-loop-i
invariant-loop-i l = Together l.acks l.message l.other l.i
