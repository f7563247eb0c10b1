-- Each case is that of the test.
use Rattle.laws.proofs.Branches.{branches}
use Rattle.usi.specs.Spi.{followed}
use Rattle.usi.proofs.spi.followed.Goals as goal

pub returns-then-follows : goal.returns-then-follows
unfolding followed
returns-then-follows c = search branches

pub returns : goal.returns
unfolding followed
returns c = search branches
