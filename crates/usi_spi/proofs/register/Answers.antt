-- `usi_spi::register` meets its contract.
use Rattle.laws.proofs.Branches.{branches}
use Rattle.usi_spi.specs.Rules.{register}
use Rattle.usi_spi.proofs.register.Goals as goal

pub returns-then-wide : goal.returns-then-wide
unfolding register
returns-then-wide c = search branches

pub returns : goal.returns
unfolding register
returns c = search branches
