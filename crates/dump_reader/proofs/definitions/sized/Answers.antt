-- `dump_reader::definitions::sized` meets its contract.
use Rattle.dump_reader.proofs.definitions.sized.Goals as goal

pub returns-in-Ok : goal.returns-in-Ok
returns-in-Ok c = rw c.in-Ok.is c.one.ensures
