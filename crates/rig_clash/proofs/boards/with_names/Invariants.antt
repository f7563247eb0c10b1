-- `rig_clash::boards::with_names` is safe and ends: each turn leaves fewer words.
use Rattle.std.proofs.Common.{length}
use Rattle.rig_clash.proofs.boards.with_names.Given as goal

abbrev pub decreases-loop-rest : goal.decreases-loop-rest
decreases-loop-rest l = length l.rest
