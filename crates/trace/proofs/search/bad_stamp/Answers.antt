use native.Mathlib.Omega.{arith}
use Prim.Native.Nat.{◌<◌, ◌≤◌}
use lib.ListN.{length}
use borrow.Author.Tests.{lt-ltb, le-ltb}
use Rattle.trace.proofs.Places.{some-place, no_place}
use Rattle.trace.proofs.Scanned.{scanned-start, scanned-more, scanned-bad, scanned-end}
use Rattle.trace.proofs.search.bad_stamp.Goals as goal

pub loop-i-init : goal.loop-i-init
loop-i-init c = scanned-start _

pub returns-then-stamps-i : goal.returns-then-stamps-i
returns-then-stamps-i c =
    let head = c.loop-i in
    let stamps = c.args.stamps.now in
    let more : head.i < length stamps = omega arith in
    some-place stamps _ head.i (scanned-bad stamps head.i head.invariant more c.if-stamps-i.true) (lt-ltb _ _ more)

pub loop-i-preserved : goal.loop-i-preserved
loop-i-preserved c =
    let head = c.loop-i in
    let stamps = c.args.stamps.now in
    let more : head.i < length stamps = omega arith in
    scanned-more stamps head.i head.invariant more c.if-stamps-i.false

pub returns : goal.returns
returns c =
    let head = c.loop-i in
    let stamps = c.args.stamps.now in
    let done : length stamps ≤ head.i = omega arith in
    no_place stamps _ head.i (scanned-end stamps head.i head.invariant done) (le-ltb _ _ done)
