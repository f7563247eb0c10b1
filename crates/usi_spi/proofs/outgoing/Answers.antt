-- `usi_spi::outgoing` meets its contract.
use Rattle.usi_spi.proofs.outgoing.Goals as goal

pub returns : goal.returns
returns c = rw (c.outgoing.ensures, c.lowest_first.ensures, c.wide.ensures)
