-- `dump_reader::definitions::wire_size` meets its contract.
use Rattle.dump_reader.proofs.definitions.wire_size.Goals as goal

pub returns : goal.returns
returns c = rw (c.sized.ensures, c.decimal.ensures)
