-- `dump_reader::values::valued` meets its contract.
use Rattle.dump_reader.proofs.values.valued.Goals as goal

pub returns : goal.returns
returns c = rw (c.with_line.ensures, c.with_line-2.ensures)
