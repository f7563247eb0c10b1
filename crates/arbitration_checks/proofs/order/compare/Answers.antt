use native.Mathlib.Omega.{arith}
use Prim.Native.Nat.{◌<◌}
use mathlib.Core.Path.{◌≡◌}
use lib.ListN.{length}
use Rattle.arbitration_checks.proofs.Alike.{shared_start, shared-more, shared-end, shared-stop}
use Rattle.arbitration_checks.proofs.Alike.{shared-other-end, shared-differ}
use Rattle.arbitration_checks.proofs.order.compare.Goals as goal

pub loop-i-init : goal.loop-i-init
loop-i-init c = shared_start _ _

pub returns-then-i-other : goal.returns-then-i-other
returns-then-i-other c =
    let head = c.loop-i in
    shared-other-end _ _ _ head.i head.invariant c.loop-i-test.true c.if-i-other.true

pub offset_bounds-other-i : goal.offset_bounds-other-i
offset_bounds-other-i c = omega (arith, c.loop-i.invariant.within-other)

pub bounds-other-i : goal.bounds-other-i
bounds-other-i c = omega (arith, c.loop-i.invariant.within-other)

pub offset_bounds-other-i-then-sent-other : goal.offset_bounds-other-i-then-sent-other
offset_bounds-other-i-then-sent-other c = omega (arith, c.loop-i.invariant.within-other)

pub bounds-other-i-then-sent-other : goal.bounds-other-i-then-sent-other
bounds-other-i-then-sent-other c = omega (arith, c.loop-i.invariant.within-other)

pub returns-then-sent-other : goal.returns-then-sent-other
returns-then-sent-other c =
    let head = c.loop-i in
    let less : head.i < length c.args.other.now = omega (arith, head.invariant.within-other) in
    shared-differ _ _ _ head.i head.invariant c.loop-i-test.true less c.if-sent-other.true

pub loop-i-preserved : goal.loop-i-preserved
loop-i-preserved c =
    let head = c.loop-i in
    let args = c.args in
    let less : head.i < length args.other.now = omega (arith, head.invariant.within-other) in
    shared-more _ _ args.comparisons head.i head.invariant c.loop-i-test.true less c.if-sent-other.false

pub returns-then-message-other : goal.returns-then-message-other
returns-then-message-other c =
    let head = c.loop-i in
    let args = c.args in
    let all : length args.message.now ≡ head.i = omega arith in
    rw all (shared-stop _ _ _ head.i head.invariant c.loop-i-test.false (omega (arith, c.if-message-other.true)))

pub returns : goal.returns
returns c =
    let head = c.loop-i in
    shared-end _ _ _ head.i head.invariant c.loop-i-test.false (omega (arith, c.if-message-other.false))
