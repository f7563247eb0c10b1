-- Each case is that of the tests on the edge and on CNT.
use Rattle.laws.proofs.Branches.{branches}
use Rattle.usi.specs.Spi.{at_edge}
use Rattle.usi.proofs.spi.at_edge.Goals as goal

pub returns-then-counting : goal.returns-then-counting
unfolding at_edge
returns-then-counting c = search branches

pub returns-then-captures : goal.returns-then-captures
unfolding at_edge
returns-then-captures c = search branches

pub returns-then-changes : goal.returns-then-changes
unfolding at_edge
returns-then-changes c = search branches

pub returns : goal.returns
unfolding at_edge
returns c = search branches
