-- No START is among the events passed.
use Prim.Native.Nat.{◌+◌, max, ◌≤◌}
use mathlib.Core.Path.{◌≡◌}
use lib.ListN.{length, drop}
use Rattle.laws.specs.Search.{first}
use Rattle.frame_match.specs.Frames.{is_start}
use Rattle.frame_match.proofs.frames.start_from.Given as goal

abbrev pub invariant-loop-i : goal.invariant-loop-i
invariant-loop-i l =
    (l.i ≤ max l.from (length l.seen))
    × (l.from + first is_start (drop l.from l.seen) ≡ l.i + first is_start (drop l.i l.seen))
