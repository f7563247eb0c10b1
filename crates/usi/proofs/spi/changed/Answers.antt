-- Each case is that of the test on CNT and GE.
use Rattle.laws.proofs.Branches.{branches}
use Rattle.usi.specs.Spi.{changed}
use Rattle.usi.proofs.spi.changed.Goals as goal

pub returns-then-moves_latch : goal.returns-then-moves_latch
unfolding changed
returns-then-moves_latch c = search branches

pub returns : goal.returns
unfolding changed
returns c = search branches
