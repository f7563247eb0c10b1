-- `usi_spi::trails` meets its contract.
use Rattle.usi_spi.proofs.trails.Goals as goal

pub returns : goal.returns
returns c = rw c.idle-rest.ensures
