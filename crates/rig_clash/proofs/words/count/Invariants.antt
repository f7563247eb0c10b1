-- `rig_clash::words::count` is safe and ends: each turn leaves fewer words.
use Rattle.std.proofs.Common.{length}
use Rattle.rig_clash.proofs.words.count.Given as goal

abbrev pub decreases-loop-rest : goal.decreases-loop-rest
decreases-loop-rest l = length l.rest
