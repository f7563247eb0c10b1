-- `usi_spi::follows` meets its contract.
use Rattle.usi_spi.proofs.follows.Goals as goal

pub returns : goal.returns
returns c = rw (c.counting.ensures, c.transparent.ensures, c.idle-rest.ensures)
