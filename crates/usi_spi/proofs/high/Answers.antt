-- `usi_spi::high` meets its contract.
use Rattle.laws.proofs.Branches.{branches}
use Rattle.usi_spi.specs.Rules.{high}
use Rattle.usi_spi.proofs.high.Goals as goal

pub returns-then-wide : goal.returns-then-wide
unfolding high
returns-then-wide c = search branches

pub returns : goal.returns
unfolding high
returns c = search branches
