-- Each case is that of the test.
use Rattle.laws.proofs.Branches.{branches}
use Rattle.usi.specs.Spi.{edged}
use Rattle.usi.proofs.spi.edged.Goals as goal

pub returns-then-u : goal.returns-then-u
unfolding edged
returns-then-u c = search branches

pub returns : goal.returns
unfolding edged
returns c = search branches
