-- `dump_reader::definitions::wire_type` meets its contract.
use Rattle.laws.proofs.Branches.{branches}
use Rattle.dump_reader.specs.Definitions.{wire_type}
use Rattle.dump_reader.proofs.definitions.wire_type.Goals as goal

pub returns-then-is_same : goal.returns-then-is_same
unfolding wire_type
returns-then-is_same c = search branches

pub returns : goal.returns
unfolding wire_type
returns c = search branches
