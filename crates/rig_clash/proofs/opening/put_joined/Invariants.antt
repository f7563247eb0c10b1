-- `rig_clash::opening::put_joined` is safe and ends: each turn leaves fewer words.
use Rattle.std.proofs.Common.{length, ◌≡◌}
use Rattle.rig_clash.proofs.opening.put_joined.Given as goal

abbrev pub invariant-loop-rest : goal.invariant-loop-rest
invariant-loop-rest l = length l.room ≡ length l.initial.room

abbrev pub decreases-loop-rest : goal.decreases-loop-rest
decreases-loop-rest l = length l.rest
