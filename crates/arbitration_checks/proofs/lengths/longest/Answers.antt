use native.Mathlib.Omega.{arith}
use Prim.Native.Nat.{◌≤◌}
use lib.ListN.{length}
use Rattle.arbitration_checks.proofs.Sums.{most-more, most-all}
use Rattle.arbitration_checks.proofs.lengths.longest.Goals as goal

pub loop-length-preserved : goal.loop-length-preserved
loop-length-preserved c =
    let head = c.loop-length in
    let list = c.args.lengths.now in
    rw c.max-most.ensures (most-more list head.length-index head.most head.invariant c.loop-length-test.true)

pub returns : goal.returns
returns c =
    let done : length c.args.lengths.now ≤ c.loop-length.length-index = omega arith in
    most-all _ _ _ c.loop-length.invariant done
