-- `dump_reader::values::is_dump` meets its contract.
use Rattle.dump_reader.specs.Values.{dump}
use Rattle.dump_reader.proofs.values.is_dump.Goals as goal

pub returns : goal.returns
unfolding dump
returns c = cc
