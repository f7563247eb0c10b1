-- `dump_reader::definitions::skip` meets its contract.
use Rattle.laws.proofs.Branches.{branches}
use Rattle.dump_reader.specs.Definitions.{skip}
use Rattle.dump_reader.proofs.definitions.skip.Goals as goal

pub returns-then-is_same : goal.returns-then-is_same
unfolding skip
returns-then-is_same c = search branches

pub returns : goal.returns
unfolding skip
returns c = search branches
