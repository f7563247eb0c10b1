-- `usi_spi::captures` meets its contract.
use Rattle.laws.proofs.Branches.{branches}
use Rattle.usi_spi.specs.Rules.{captures}
use Rattle.usi_spi.proofs.captures.Goals as goal

pub returns-then-usictl1-eq-USICKPH : goal.returns-then-usictl1-eq-USICKPH
unfolding captures
returns-then-usictl1-eq-USICKPH c = search branches

pub returns : goal.returns
unfolding captures
returns c = search branches
