use Rattle.std.proofs.Common.{length, ap, arith}
use Rattle.text.proofs.Runs.{after-line-shorter}
use Rattle.cases_bus.proofs.run.Goals as goal

pub loop-rest-smaller : goal.loop-rest-smaller
loop-rest-smaller c =
    let rest = c.loop-rest.rest.now in
    omega (arith, ap length c.after_line-rest.ensures, after-line-shorter rest (omega arith))
