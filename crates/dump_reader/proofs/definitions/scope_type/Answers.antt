-- `dump_reader::definitions::scope_type` meets its contract.
use Rattle.laws.proofs.Branches.{branches}
use Rattle.dump_reader.specs.Definitions.{scope_type}
use Rattle.dump_reader.proofs.definitions.scope_type.Goals as goal

pub returns-then-is_scope : goal.returns-then-is_scope
unfolding scope_type
returns-then-is_scope c = search branches

pub returns : goal.returns
unfolding scope_type
returns c = search branches
