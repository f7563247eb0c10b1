-- `rig_clash::words::first_other` is safe and ends: each turn leaves fewer words.
use Rattle.std.proofs.Common.{length}
use Rattle.rig_clash.proofs.words.first_other.Given as goal

abbrev pub decreases-loop-kind : goal.decreases-loop-kind
decreases-loop-kind l = length l.rest
