use Rattle.encode.proofs.EventLists.{samples-more, few-samples}
use lib.ListN.{length, get_or, drop, drop_of_length-le}
use mathlib.Core.List.{[]}
use mathlib.Core.Path.{◌≡◌}
use Prim.Native.Nat.{◌≤◌, ◌<◌}
use native.Mathlib.Omega.{arith}
use Rattle.encode.proofs.frames.count_samples.Goals as goal

pub loop-event-init : goal.loop-event-init
loop-event-init c = (omega arith, omega arith)

pub overflow_add-count : goal.overflow_add-count
overflow_add-count c =
    let event = get_or c.args.events.now c.loop-event.event-index 0 in
    omega (arith, c.event_samples-count.ensures, few-samples event)

pub returns-then-count-gt-MAX_SAMPLES : goal.returns-then-count-gt-MAX_SAMPLES
returns-then-count-gt-MAX_SAMPLES c =
    let head = c.loop-event in
    let events = c.args.events.now in
    let added = c.event_samples-count.ensures in
    let more : head.event-index < length events = omega arith in
    omega (arith, added, samples-more events head.event-index more)

pub loop-event-preserved : goal.loop-event-preserved
loop-event-preserved c =
    let head = c.loop-event in
    let events = c.args.events.now in
    let added = c.event_samples-count.ensures in
    let more : head.event-index < length events = omega arith in
    (omega arith, omega (arith, added, samples-more events head.event-index more))

pub returns : goal.returns
returns c =
    let head = c.loop-event in
    let events = c.args.events.now in
    let done : length events ≤ head.event-index = omega arith in
    let none : drop head.event-index events ≡ [] = drop_of_length-le events done in
    omega (arith, rw none at head.invariant.1)
