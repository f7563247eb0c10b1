-- `cases_arbitration::script::read_digits` is safe, ends and answers a count of the buffer.
use Prim.Native.Nat.{◌≤◌}
use lib.ListN.{length}
use mathlib.Core.Path.{◌≡◌}
use Rattle.cases_arbitration.proofs.script.read_digits.Given as goal

abbrev pub invariant-loop-b : goal.invariant-loop-b
invariant-loop-b l = (l.n ≤ length l.values) × (length l.values ≡ length l.initial.values)
