use native.Mathlib.Omega.{arith}
use Prim.Native.Nat.{◌<◌, ◌≤◌}
use lib.ListN.{length}
use Rattle.catalogue.proofs.Rising.{risen-start, risen-more, risen-not, risen-all}
use Rattle.catalogue.proofs.lists.rises.Goals as goal

pub loop-i-init : goal.loop-i-init
loop-i-init c = risen-start _

pub returns-then-boards-i : goal.returns-then-boards-i
returns-then-boards-i c =
    let head = c.loop-i in
    let boards = c.args.boards.now in
    let more : head.i < length boards = omega arith in
    risen-not boards head.i head.invariant more c.if-boards-i.true

pub loop-i-preserved : goal.loop-i-preserved
loop-i-preserved c =
    let head = c.loop-i in
    let boards = c.args.boards.now in
    let more : head.i < length boards = omega arith in
    risen-more boards head.i head.invariant more c.if-boards-i.false

pub returns : goal.returns
returns c =
    let head = c.loop-i in
    let boards = c.args.boards.now in
    let done : length boards ≤ head.i = omega arith in
    risen-all boards head.i head.invariant done
