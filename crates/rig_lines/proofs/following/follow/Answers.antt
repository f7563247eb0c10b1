use Rattle.rig_lines.specs.Following.{nothing, one}
use Rattle.rig_lines.proofs.following.follow.Goals as goal

pub loop-init : goal.loop-init
loop-init g c = nothing

pub loop-preserved : goal.loop-preserved
loop-preserved g c =
    one c.in-Some.from c.loop.invariant c.in-Some.ensures c.next_line-taken.ensures c.after-state.ensures
