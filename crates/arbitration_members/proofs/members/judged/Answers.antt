use native.Mathlib.Omega.{arith}
use Rattle.arbitration_members.proofs.Judging.{judging-start, Places, judging-more, judging-done}
use Rattle.arbitration_members.proofs.members.judged.Goals as goal

pub loop-i-init : goal.loop-i-init
loop-i-init c = judging-start _ _ _ _ _

pub loop-i-preserved : goal.loop-i-preserved
loop-i-preserved c =
    let a = c.args in
    let places : Places a.position a.al a.contending a.lost a.positions =
    record { of-al = omega arith; of-contending = omega arith; of-lost = omega arith; of-positions = omega arith } in
    rw c.lost_at.ensures
    (judging-more _ a.al a.contending a.lost a.positions places _ _ _ _ c.loop-i.invariant
    c.loop-i-test.true)

pub returns : goal.returns
returns c =
    let a = c.args in
    let places : Places a.position a.al a.contending a.lost a.positions =
    record { of-al = omega arith; of-contending = omega arith; of-lost = omega arith; of-positions = omega arith } in
    judging-done _ a.al a.contending a.lost a.positions places _ _ _ _ c.loop-i.invariant _ _
    c.loop-i-test.false
