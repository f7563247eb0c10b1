use native.Mathlib.Omega.{arith}
use Prim.Native.Nat.{◌<◌, min}
use mathlib.Core.Path.{◌≡◌}
use lib.ListN.{length}
use Rattle.arbitration_rules.specs.Limits.{max_masters}
use Rattle.verdict.proofs.Agreeing.{agreeing-start, agreeing-more, agreeing-fails, agreeing-done}
use borrow.Author.Rules.{rules}
use Rattle.verdict.proofs.contenders.agree.Goals as goal

pub loop-i-init : goal.loop-i-init
loop-i-init c = agreeing-start _ _ _ _

pub offset_bounds-sent-from : goal.offset_bounds-sent-from
offset_bounds-sent-from c = omega (arith, c.loop-i.invariant.at.within)

pub slice_bounds-same-count : goal.slice_bounds-same-count
slice_bounds-same-count c = omega (arith, c.end_of-to.ensures, c.loop-i.invariant.at.within)

pub slice_bounds-same-start : goal.slice_bounds-same-start
slice_bounds-same-start c = omega (arith, c.end_of-to.ensures, c.loop-i.invariant.at.within)

pub slice_bounds-same-end : goal.slice_bounds-same-end
slice_bounds-same-end c = omega (arith, c.end_of-to.ensures)

pub returns-then-seats-i : goal.returns-then-seats-i
returns-then-seats-i c =
    let head = c.loop-i in
    let a = c.args in
    let inside : head.i < min (length a.lengths.now) max_masters = omega arith in
    let seated : length a.seats ≡ max_masters = search rules in
    agreeing-fails a.message.now a.seats a.lengths.now a.sent.now head.i head.from _ _ _ head.invariant
    c.end_of-to.ensures c.same.ensures seated inside c.if-seats-i.true

pub loop-i-preserved : goal.loop-i-preserved
loop-i-preserved c =
    let head = c.loop-i in
    let a = c.args in
    let inside : head.i < min (length a.lengths.now) max_masters = omega arith in
    let seated : length a.seats ≡ max_masters = search rules in
    agreeing-more a.message.now a.seats a.lengths.now a.sent.now head.i head.from _ _ _ head.invariant
    c.end_of-to.ensures c.same.ensures seated inside c.if-seats-i.false

pub returns : goal.returns
returns c =
    let a = c.args in
    let head = c.loop-i in
    let seated : length a.seats ≡ max_masters = search rules in
    agreeing-done a.message.now a.seats a.lengths.now a.sent.now head.i head.from head.invariant seated (omega arith)
