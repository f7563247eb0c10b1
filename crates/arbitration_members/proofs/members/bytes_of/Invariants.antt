-- The bytes gathered so far.
use mathlib.Core.Path.{◌≡◌}
use mathlib.Core.List.{◌++◌, map}
use lib.ListN.{take, drop, replicate}
use Rattle.arbitration_rules.specs.Limits.{max_masters}
use Rattle.arbitration_rules.specs.Outcome.{byte_of}
use Rattle.arbitration_members.proofs.members.bytes_of.Given as goal

abbrev pub invariant-loop-i : goal.invariant-loop-i
invariant-loop-i l = l.out ≡ map byte_of (take l.i l.sent-items) ++ drop l.i (replicate max_masters 0)
