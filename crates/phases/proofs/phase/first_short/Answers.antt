use native.Mathlib.Omega.{arith}
use mathlib.Core.Path.{sym, ap, ◌∙◌}
use Prim.Native.Nat.{◌<◌, ◌≤◌}
use lib.ListN.{length}
use borrow.Author.Tests.{lt-ltb, le-ltb}
use Rattle.trace.proofs.Places.{some-place, no_place}
use Rattle.phases.specs.declared.phase.Limits.{Limits}
use Rattle.phases.specs.Phases.{least, first_under}
use Rattle.phases.proofs.Searched.{searched-start, searched-found, searched-more, searched-none, none-empty}
use Rattle.phases.proofs.phase.first_short.Goals as goal

pub returns-then-levels-eq0 : goal.returns-then-levels-eq0
returns-then-levels-eq0 c =
    let args = c.args in
    no_place args.levels.now _ 0 (none-empty (least args.mode) args.stamps.now args.levels.now c.if-levels-eq0.true)
    (le-ltb _ _ (omega (arith, c.if-levels-eq0.true)))

pub loop-i-init : goal.loop-i-init
loop-i-init c =
    let some : 0 < length c.args.levels.now = omega arith in
    rw c.cut_off-phase.ensures (searched-start _ _ _ c.requires.0 some)

pub bounds-stamps-i : goal.bounds-stamps-i
bounds-stamps-i c = omega (arith, c.requires.0)

pub ends_short-requires : goal.ends_short-requires
ends_short-requires c = c.loop-i.invariant.ahead (omega arith)

pub returns-then-ends_short : goal.returns-then-ends_short
returns-then-ends_short c =
    let head = c.loop-i in
    let stamps = c.args.stamps.now in
    let levels = c.args.levels.now in
    let limits = c.least-limits in
    let more : head.i < length levels = omega arith in
    some-place levels _ head.i
    (searched-found limits.result stamps levels head.phase head.i head.invariant c.requires.0 more
    (sym c.ends_short.ensures ∙ c.if-ends_short.true)
    ∙ ap (λ (l : Limits). first_under l stamps levels) limits.ensures) (lt-ltb _ _ more)

pub loop-i-preserved : goal.loop-i-preserved
loop-i-preserved c =
    let head = c.loop-i in
    let stamps = c.args.stamps.now in
    let levels = c.args.levels.now in
    let limits = c.least-limits in
    let more : head.i < length levels = omega arith in
    rw c.next-phase.ensures
    (searched-more limits.result stamps levels head.phase head.i head.invariant c.requires.0 more c.requires.1
    (sym c.ends_short.ensures ∙ c.if-ends_short.false))

pub returns : goal.returns
returns c =
    let head = c.loop-i in
    let stamps = c.args.stamps.now in
    let levels = c.args.levels.now in
    let limits = c.least-limits in
    let done : length levels ≤ head.i = omega arith in
    no_place levels _ head.i
    (searched-none limits.result stamps levels head.phase head.i head.invariant done (omega (arith, c.requires.0))
    ∙ ap (λ (l : Limits). first_under l stamps levels) limits.ensures) (le-ltb _ _ done)
