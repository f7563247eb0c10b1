-- `dump_reader::words::is_command` meets its contract.
use Rattle.dump_reader.proofs.words.is_command.Goals as goal

pub returns : goal.returns
returns c = rw c.first_byte.ensures
