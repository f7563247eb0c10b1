-- `usi_spi::data_line` meets its contract.
use Rattle.laws.proofs.Branches.{branches}
use Rattle.usi_spi.specs.Rules.{data_line}
use Rattle.usi_spi.proofs.data_line.Goals as goal

pub returns-then-enable : goal.returns-then-enable
unfolding data_line
returns-then-enable c = search branches

pub returns : goal.returns
unfolding data_line
returns c = search branches
