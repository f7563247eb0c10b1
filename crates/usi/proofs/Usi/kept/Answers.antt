-- Each case is that of the test.
use Rattle.laws.proofs.Branches.{branches}
use Rattle.usi.proofs.Usi.kept.Goals as goal

pub returns : goal.returns
returns c = search branches
