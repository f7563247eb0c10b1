-- `dump_reader::definitions::name` meets its contract.
use Rattle.laws.proofs.Branches.{branches}
use Rattle.dump_reader.specs.Definitions.{name}
use Rattle.dump_reader.proofs.definitions.name.Goals as goal

pub returns-then-is_command : goal.returns-then-is_command
unfolding name
returns-then-is_command c = search branches

pub returns : goal.returns
unfolding name
returns c = search branches
