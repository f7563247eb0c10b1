-- `cases_decode::run` is safe and ends: each turn leaves a shorter script.
use Rattle.std.proofs.Common.{length}
use Rattle.cases_bus.proofs.run.Given as goal

abbrev pub invariant-loop-rest : goal.invariant-loop-rest
invariant-loop-rest l = Unit {0}

abbrev pub decreases-loop-rest : goal.decreases-loop-rest
decreases-loop-rest l = length l.rest
