-- Step 2, instant by instant.
use Rattle.laws.proofs.Branches.{branches}
use Rattle.arbitration_pass.proofs.instants.byte.Goals as goal

pub returns-then-at-eq0 : goal.returns-then-at-eq0
returns-then-at-eq0 c = search branches

pub returns-then-at-lt25 : goal.returns-then-at-lt25
returns-then-at-lt25 c = search branches

pub returns-then-at-eq25 : goal.returns-then-at-eq25
returns-then-at-eq25 c = search branches

pub returns : goal.returns
returns c = search branches
