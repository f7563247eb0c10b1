-- Each case is that of the test on GE.
use Rattle.laws.proofs.Branches.{branches}
use Rattle.usi.specs.Step.{followed}
use Rattle.usi.proofs.Usi.followed.Goals as goal

pub returns-then-transparent : goal.returns-then-transparent
unfolding followed
returns-then-transparent c = search branches

pub returns : goal.returns
unfolding followed
returns c = search branches
