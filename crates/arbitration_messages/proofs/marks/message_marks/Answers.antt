use native.Mathlib.Omega.{arith}
use Prim.Native.Nat.{◌<◌}
use mathlib.Core.Path.{◌≡◌}
use lib.Seq.{get_or-take, length-take-le}
use lib.ListN.{length}
use Rattle.arbitration_messages.proofs.Marking.{started-more, started-done}
use borrow.Author.Rules.{rules}
use Rattle.arbitration_messages.proofs.marks.message_marks.Goals as goal

pub loop-length-preserved : goal.loop-length-preserved
loop-length-preserved c =
    let head = c.loop-length in
    let args = c.args in
    let sixteen : length args.lengths ≡ 16 = search rules in
    let size = length-take-le args.count args.lengths (omega arith) in
    let less : head.length-index < args.count = omega (arith, c.loop-length-test.true) in (
      omega (arith, c.requires.1 head.length-index, get_or-take args.count args.lengths head.length-index 0 less),
      started-more _ _ _ _ _ head.invariant.1 c.loop-length-test.true,
    )

pub returns : goal.returns
returns c = started-done _ _ _ _ _ c.loop-length.invariant.1 c.loop-length-test.false
