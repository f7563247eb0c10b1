-- The messages passed so far differ from none at an ending.
use mathlib.Core.Bool.{Bool}
use mathlib.Core.List.{List, []}
use Prim.Native.Nat.{ℕ}
use Rattle.laws.specs.Search.{any}
use Rattle.arbitration_rules.specs.Outcome.{ending_differs}
use Rattle.arbitration_rules.specs.Reply.{cut}
use Rattle.arbitration_checks.proofs.SearchedMessages.{Searched}
use Rattle.night.proofs.refusals.end_apart.Given as goal

abbrev differs : List ℕ → List ℕ → List ℕ → Bool
differs lengths sent message = any (ending_differs [] message) (cut lengths sent)

abbrev pub invariant-loop-length : goal.invariant-loop-length
invariant-loop-length l = Searched (differs l.lengths l.sent) l.lengths l.sent l.length-index l.from
