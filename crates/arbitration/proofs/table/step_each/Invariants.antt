-- After i turns the first i modules have made their step, and what they show has been noted.
use Rattle.arbitration_pass.specs.declared.pass.Pass.{Pass}
use Rattle.arbitration.specs.Steps.{Makes}
use Rattle.arbitration.proofs.PassLaws.{AfterTurns}
use Rattle.arbitration.proofs.table.step_each.Given as goal

abbrev pub invariant-loop-i : goal.invariant-loop-i
invariant-loop-i g l =
    (pass : Pass) → Makes pass (goal.F-post g l.step) → AfterTurns pass l.initial.table l.count l.i l.table l.seen
