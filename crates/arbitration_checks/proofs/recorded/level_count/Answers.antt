-- There are no more restarts than bytes.
use native.Mathlib.Omega.{arith}
use Rattle.arbitration_checks.proofs.Carried.{restarts-few}
use Rattle.arbitration_checks.proofs.recorded.level_count.Goals as goal

pub overflow_mul-result-2 : goal.overflow_mul-result-2
overflow_mul-result-2 c = omega (arith, c.restart_count.ensures, restarts-few c.args.carried.now)

pub overflow_add-result-2 : goal.overflow_add-result-2
overflow_add-result-2 c = omega (arith, c.restart_count.ensures, restarts-few c.args.carried.now)
