-- The three samples of a bit turn past its first tick.
use Rattle.laws.proofs.Branches.{branches}
use Rattle.arbitration_pass.proofs.instants.turn.Goals as goal

pub returns-then-at-eq0 : goal.returns-then-at-eq0
returns-then-at-eq0 c = search branches

pub returns-then-at-eq1 : goal.returns-then-at-eq1
returns-then-at-eq1 c = search branches

pub returns : goal.returns
returns c = search branches
