-- `usi_spi::changes` meets its contract.
use Rattle.laws.proofs.Branches.{branches}
use Rattle.usi_spi.specs.Rules.{changes}
use Rattle.usi_spi.proofs.changes.Goals as goal

pub returns-then-usictl1-eq-USICKPH : goal.returns-then-usictl1-eq-USICKPH
unfolding changes
returns-then-usictl1-eq-USICKPH c = search branches

pub returns : goal.returns
unfolding changes
returns c = search branches
