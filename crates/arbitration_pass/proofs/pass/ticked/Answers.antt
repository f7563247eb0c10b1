-- With a tick, and without.
use Rattle.laws.proofs.Branches.{branches}
use Rattle.arbitration_pass.proofs.pass.ticked.Goals as goal

pub returns-then-ticks : goal.returns-then-ticks
returns-then-ticks c = search branches
