-- A repeated START or the STOP, instant by instant.
use Rattle.laws.proofs.Branches.{branches}
use Rattle.arbitration_pass.proofs.instants.condition.Goals as goal

pub returns-then-at-eq0 : goal.returns-then-at-eq0
returns-then-at-eq0 c = search branches

pub returns-then-at-lt4 : goal.returns-then-at-lt4
returns-then-at-lt4 c = search branches

pub returns-then-at-eq4 : goal.returns-then-at-eq4
returns-then-at-eq4 c = search branches

pub returns-then-at-eq5 : goal.returns-then-at-eq5
returns-then-at-eq5 c = search branches

pub returns : goal.returns
returns c = search branches
