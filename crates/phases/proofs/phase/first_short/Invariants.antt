-- The search goes on while no sample ends a short phase.
use Rattle.phases.proofs.Searched.{Searched}
use Rattle.phases.proofs.phase.first_short.Given as goal

abbrev pub invariant-loop-i : goal.invariant-loop-i
invariant-loop-i l = Searched l.limits l.stamps l.levels l.phase l.i
