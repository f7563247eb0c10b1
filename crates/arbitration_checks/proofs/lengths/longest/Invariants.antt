-- The greatest so far and the greatest of what is left make the greatest.
use Prim.Native.Nat.{max}
use mathlib.Core.Path.{◌≡◌}
use lib.ListN.{drop}
use Rattle.arbitration_rules.specs.Reply.{longest}
use Rattle.arbitration_checks.proofs.lengths.longest.Given as goal

abbrev pub invariant-loop-length : goal.invariant-loop-length
invariant-loop-length l = max l.most (longest (drop l.length-index l.lengths)) ≡ longest l.lengths
