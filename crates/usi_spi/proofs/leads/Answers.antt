-- `usi_spi::leads` meets its contract.
use Rattle.usi_spi.proofs.leads.Goals as goal

pub returns : goal.returns
returns c = rw c.idle-rest.ensures
