-- `dump_reader::definitions::one` meets its contract.
use Rattle.laws.proofs.Branches.{branches}
use Rattle.dump_reader.specs.Definitions.{one}
use Rattle.dump_reader.proofs.definitions.one.Goals as goal

pub returns-then-n-eq1 : goal.returns-then-n-eq1
unfolding one
returns-then-n-eq1 c = search branches

pub returns-else-n-eq1 : goal.returns-else-n-eq1
unfolding one
returns-else-n-eq1 c = search branches
