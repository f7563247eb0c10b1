-- No frame passed is rehearsed, from the load on.
use Prim.Native.Nat.{◌-◌}
use mathlib.Core.Path.{◌≡◌}
use lib.ListN.{length, drop}
use Rattle.frame_match.specs.Frames.{cut}
use Rattle.frame_match.specs.Rules as matching
use Rattle.frame_match.proofs.rules.comes.Given as goal

abbrev pub invariant-loop-at : goal.invariant-loop-at
invariant-loop-at l = matching.comes l.book l.rows l.events l.load (cut (drop l.from l.seen)) ≡ matching.comes l.book l.rows l.events l.load (cut (drop l.at l.seen))

abbrev pub decreases-loop-at : goal.decreases-loop-at
decreases-loop-at l = length l.seen - l.at
