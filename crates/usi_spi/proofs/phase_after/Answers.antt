-- `usi_spi::phase_after` meets its contract.
use Rattle.laws.proofs.Branches.{branches}
use Rattle.usi_spi.specs.Rules.{phase_after}
use Rattle.usi_spi.proofs.phase_after.Goals as goal

pub returns-then-clocking : goal.returns-then-clocking
unfolding phase_after
returns-then-clocking c = search branches

pub returns : goal.returns
unfolding phase_after
returns c = search branches
