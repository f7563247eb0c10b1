-- The seats passed so far are not in.
use Rattle.laws.proofs.Search.{Passed}
use Rattle.verdict.specs.Verdict.{still_in}
use Rattle.verdict.proofs.contenders.first.Given as goal

abbrev pub invariant-loop-i : goal.invariant-loop-i
invariant-loop-i l = Passed still_in l.seat-items l.i
