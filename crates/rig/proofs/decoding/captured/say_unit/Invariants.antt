-- `rig::decoding::captured::say_unit` is safe and ends: the number falls.
use Prim.Native.Nat.{◌≤◌}
use Rattle.rig.proofs.decoding.captured.say_unit.Given as goal

abbrev pub invariant-loop-left : goal.invariant-loop-left
invariant-loop-left l = l.unit ≤ 5

abbrev pub decreases-loop-left : goal.decreases-loop-left
decreases-loop-left l = l.left
