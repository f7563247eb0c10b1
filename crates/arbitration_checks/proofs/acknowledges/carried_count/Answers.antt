use native.Mathlib.Omega.{arith}
use Rattle.arbitration_checks.proofs.Carried.{carried-start, carried-all, carried-last, carried-more}
use Rattle.arbitration_checks.proofs.acknowledges.carried_count.Goals as goal

pub loop-i-init : goal.loop-i-init
loop-i-init c = carried-start _ _

pub returns-then-acks-i-eq1 : goal.returns-then-acks-i-eq1
returns-then-acks-i-eq1 c =
    let head = c.loop-i in
    carried-last _ _ head.i head.invariant (omega arith) c.if-acks-i-eq1.true

pub loop-i-preserved : goal.loop-i-preserved
loop-i-preserved c =
    let head = c.loop-i in
    carried-more _ _ head.i head.invariant (omega arith) c.if-acks-i-eq1.false

pub returns : goal.returns
returns c =
    let head = c.loop-i in
    carried-all _ _ head.i head.invariant (omega arith)
