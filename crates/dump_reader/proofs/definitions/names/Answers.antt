-- `dump_reader::definitions::names` meets its contract.
use Rattle.laws.proofs.Branches.{branches}
use Rattle.dump_reader.specs.Definitions.{names}
use Rattle.dump_reader.proofs.definitions.names.Goals as goal

pub returns-then-is_same : goal.returns-then-is_same
unfolding names
returns-then-is_same c = search branches

pub returns : goal.returns
unfolding names
returns c = search branches
