-- `write_levels` puts what the events passed so far draw at the slice's start, and its rest stays.
use Rattle.encode.specs.Encode.{draw_events, drawing}
use lib.ListN.{drop}
use Rattle.laws.proofs.Buffer.{Writing}
use Rattle.encode.proofs.draw.write_levels.Given as goal

abbrev pub invariant-loop-event : goal.invariant-loop-event
invariant-loop-event l =
    Writing (drawing l.events) (draw_events (drop l.event-index l.events)) l.initial.levels l.levels l.at
