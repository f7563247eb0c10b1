-- `usi_spi::clock_line` meets its contract.
use Rattle.laws.proofs.Branches.{branches}
use Rattle.usi_spi.specs.Rules.{clock_line}
use Rattle.usi_spi.proofs.clock_line.Goals as goal

pub returns-then-usictl0-eq-USIMST : goal.returns-then-usictl0-eq-USIMST
unfolding clock_line
returns-then-usictl0-eq-USIMST c = rw (c.if-usictl0-eq-USIMST.true, c.at_level.ensures, c.clock_level.ensures)

pub returns : goal.returns
unfolding clock_line
returns c = search branches
