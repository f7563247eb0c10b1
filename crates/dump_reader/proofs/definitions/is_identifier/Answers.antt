-- `dump_reader::definitions::is_identifier` meets its contract.
use Rattle.dump_reader.specs.Definitions.{identifier}
use Rattle.dump_reader.proofs.definitions.is_identifier.Goals as goal

pub returns : goal.returns
unfolding identifier
returns c = rw (c.is_same.ensures, c.run_length.ensures.value)
