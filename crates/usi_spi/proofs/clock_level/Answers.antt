-- `usi_spi::clock_level` meets its contract.
use Rattle.usi_spi.proofs.clock_level.Goals as goal

pub returns : goal.returns
returns c = rw c.idle.ensures
