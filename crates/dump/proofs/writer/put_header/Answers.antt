-- `dump::writer::put_header` meets its contract.
use Rattle.dump.specs.Text.{header}
use Rattle.dump.proofs.writer.put_header.Goals as goal

pub returns : goal.returns
unfolding header
returns c = c.put.ensures
