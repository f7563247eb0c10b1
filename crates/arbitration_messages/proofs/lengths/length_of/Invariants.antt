-- The sum so far is within the limit, and no part passed is empty.
use Prim.Native.Nat.{◌+◌, ◌≤◌}
use mathlib.Core.Path.{◌≡◌}
use lib.ListN.{drop}
use Rattle.laws.proofs.Search.{Passed}
use Rattle.arbitration_rules.specs.Limits.{max_length}
use Rattle.arbitration_rules.specs.Reply.{is_empty, total}
use Rattle.arbitration_messages.proofs.lengths.length_of.Given as goal

abbrev pub invariant-loop-part : goal.invariant-loop-part
invariant-loop-part l =
    Passed is_empty l.parts l.part-index
    × (l.sum + total (drop l.part-index l.parts) ≡ total l.parts)
    × (l.sum ≤ max_length)
