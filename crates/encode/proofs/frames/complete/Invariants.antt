-- `complete` is the position after the last event; the position so far decides the rest.
use Rattle.encode.specs.Complete.{complete, complete_from}
use lib.ListN.{drop}
use mathlib.Core.Path.{◌≡◌}
use Rattle.encode.proofs.frames.complete.Given as goal

abbrev pub invariant-loop-event : goal.invariant-loop-event
invariant-loop-event l = complete l.events ≡ complete_from l.position (drop l.event-index l.events)
