-- Step 1, instant by instant.
use Rattle.laws.proofs.Branches.{branches}
use Rattle.arbitration_pass.proofs.instants.opening.Goals as goal

pub returns-then-at-eq1 : goal.returns-then-at-eq1
returns-then-at-eq1 c = search branches

pub returns-then-at-eq3 : goal.returns-then-at-eq3
returns-then-at-eq3 c = search branches

pub returns : goal.returns
returns c = search branches
