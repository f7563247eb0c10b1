use mathlib.Core.Path.{◌∙◌}
use lib.ListN.{get_or}
use Rattle.event_match.proofs.Places.{byte_more, byte_small}
use Rattle.event_match.proofs.lists.byte_at.Goals as goal

pub loop-event-preserved : goal.loop-event-preserved
loop-event-preserved c =
    let head = c.loop-event in
    let events = c.args.events.now in
    let next = c.byte_after-byte in (
      rw next.ensures (byte_small head.byte (get_or events head.event-index 0) head.event-index head.invariant.0),
      next.ensures ∙ rw head.invariant.1 (byte_more events head.event-index c.loop-event-test.true),
    )
