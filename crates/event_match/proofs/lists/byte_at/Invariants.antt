-- The events passed have left the next one at this byte.
use Prim.Native.Nat.{◌≤◌}
use mathlib.Core.Path.{◌≡◌}
use lib.ListN.{take}
use Rattle.event_match.specs.Match.{byte_from}
use Rattle.event_match.proofs.lists.byte_at.Given as goal

abbrev pub invariant-loop-event : goal.invariant-loop-event
invariant-loop-event l = (l.byte ≤ l.event-index) × (l.byte ≡ byte_from 0 (take l.event-index l.events))
