-- Its module is the one left where it is carried.
use Rattle.laws.proofs.Branches.{branches}
use Rattle.night.proofs.carried.module_of.Goals as goal

pub returns-then-carried : goal.returns-then-carried
returns-then-carried c = search branches

pub returns : goal.returns
returns c = search branches
