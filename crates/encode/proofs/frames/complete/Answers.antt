use Rattle.encode.proofs.EventLists.{complete-more}
use Rattle.encode.specs.Complete.{complete_from}
use lib.ListN.{length, drop_of_length-le}
use mathlib.Core.Path.{refl, sym, ap, ◌∙◌}
use Prim.Native.Nat.{◌≤◌, ◌<◌}
use native.Mathlib.Omega.{arith}
use Rattle.encode.proofs.frames.complete.Goals as goal

pub loop-event-init : goal.loop-event-init
loop-event-init c = refl

pub loop-event-preserved : goal.loop-event-preserved
loop-event-preserved c =
    let head = c.loop-event in
    let events = c.args.events.now in
    let more : head.event-index < length events = omega arith in
    rw c.advance-position.ensures (head.invariant ∙ complete-more events head.position head.event-index more)

pub returns : goal.returns
returns c =
    let head = c.loop-event in
    let events = c.args.events.now in
    let done : length events ≤ head.event-index = omega arith in
    c.ends.ensures ∙ sym (head.invariant ∙ ap (complete_from head.position) (drop_of_length-le events done))
