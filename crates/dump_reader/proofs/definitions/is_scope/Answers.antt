-- `dump_reader::definitions::is_scope` meets its contract.
use Rattle.dump_reader.specs.Definitions.{scope}
use Rattle.dump_reader.proofs.definitions.is_scope.Goals as goal

pub returns : goal.returns
unfolding scope
returns c = cc
