-- `cases_arbitration::script::join` is safe, ends and answers a count of the buffer.
use mathlib.Core.Path.{◌≡◌}
use lib.ListN.{length}
use Rattle.cases_arbitration.proofs.script.join.Given as goal

abbrev pub invariant-loop-i : goal.invariant-loop-i
invariant-loop-i l = length l.values ≡ length l.initial.values
