-- `cases_arbitration::script::read_numbers` is safe, ends and answers a count of the buffer.
use lib.ListN.{length}
use mathlib.Core.Path.{◌≡◌}
use Rattle.cases_arbitration.proofs.script.read_numbers.Given as goal

abbrev pub invariant-loop-n : goal.invariant-loop-n
invariant-loop-n l = length l.out ≡ length l.initial.out
