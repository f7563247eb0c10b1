-- What is gathered so far.
use mathlib.Core.Path.{◌≡◌}
use mathlib.Core.List.{◌++◌, map}
use lib.ListN.{take, drop, replicate}
use Rattle.arbitration_rules.specs.Limits.{max_masters}
use Rattle.arbitration_rules.specs.Outcome.{sent_at}
use Rattle.arbitration_members.proofs.messages.column.Given as goal

abbrev pub invariant-loop-i : goal.invariant-loop-i
invariant-loop-i l = l.out ≡ map (sent_at l.index) (take l.i l.row-items) ++ drop l.i (replicate max_masters 0)
