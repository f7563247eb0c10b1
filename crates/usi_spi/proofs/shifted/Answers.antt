-- `usi_spi::shifted` meets its contract.
use Rattle.usi_spi.proofs.shifted.Goals as goal

pub returns : goal.returns
returns c = rw (c.shifted.ensures, c.lowest_first.ensures, c.wide.ensures)
