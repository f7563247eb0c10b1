-- `rig_lines::following::follow` meets its contract. The invariant: the lines so far are followed.
use Rattle.rig_lines.specs.Following.{Followed}
use Rattle.rig_lines.proofs.following.follow.Given as goal

abbrev pub invariant-loop : goal.invariant-loop
invariant-loop g l =
    Followed g.F.Follower.says g.F.Follower.step l.fn.begun l.initial.piece l.initial.line l.initial.follower
    l.state l.piece l.line l.follower l.counter
