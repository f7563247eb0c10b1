use Rattle.encode.specs.Encode.{draw_event, draw_events, drawing}
use lib.ListN.{length, get_or, set, length-set}
use Rattle.encode.proofs.EventLists.{draw-more, draw-end}
use Rattle.laws.proofs.Buffer.{writing-first, writing-long, writing-room, writing_more, writing-done}
use Rattle.laws.proofs.Buffer.{filled-first}
use mathlib.Core.List.{List}
use mathlib.Core.Path.{◌∙◌}
use Prim.Native.Nat.{ℕ, ◌≤◌, ◌<◌}
use native.Mathlib.Omega.{arith}
use Rattle.encode.proofs.draw.write_levels.Goals as goal

enough : (drawn levels : List ℕ) → length drawn ≤ length levels → length drawn ≤ length (set levels 0 3)
enough drawn levels h = rw length-set h

pub loop-event-init : goal.loop-event-init
loop-event-init c =
    let levels = c.args.levels.now in
    let some : 0 < length levels = omega arith in
    writing-first 3 _ levels some

pub put_event-at-requires : goal.put_event-at-requires
put_event-at-requires c =
    let head = c.loop-event in
    let events = c.args.events.now in
    let levels = c.args.levels.now in
    let more : head.event-index < length events = omega arith in
    let room = enough (drawing events) levels c.requires in
    let event = get_or events head.event-index 0 in
    writing-room _ _ _ _ _ room head.invariant (draw_event event) _ (draw-more events head.event-index more)

pub loop-event-preserved : goal.loop-event-preserved
loop-event-preserved c =
    let head = c.loop-event in
    let events = c.args.events.now in
    let levels = c.args.levels.now in
    let stored = c.put_event-at.ensures in
    let room = enough (drawing events) levels c.requires in
    let event = get_or events head.event-index 0 in
    let more : head.event-index < length events = omega arith in
    rw (stored.next, stored.stored)
    (writing_more _ _ _ _ _ room head.invariant (draw_event event) _ (draw-more events head.event-index more))

pub shape_of-levels : goal.shape_of-levels
shape_of-levels c =
    let events = c.args.events.now in
    let levels = c.args.levels.now in
    let room = enough (drawing events) levels c.requires in
    writing-long _ _ _ _ _ room c.loop-event.invariant ∙ length-set levels 0 3

pub returns : goal.returns
returns c =
    let head = c.loop-event in
    let events = c.args.events.now in
    let levels = c.args.levels.now in
    let done : length events ≤ head.event-index = omega arith in
    writing-done _ _ _ _ _ (enough (drawing events) levels c.requires) head.invariant
    (draw-end events head.event-index done)
    ∙ filled-first 3 3 (draw_events events) levels
