-- `dump_reader::definitions::close` meets its contract.
use Rattle.laws.proofs.Branches.{branches}
use Rattle.dump_reader.specs.Definitions.{close}
use Rattle.dump_reader.proofs.definitions.close.Goals as goal

pub returns-then-is_same : goal.returns-then-is_same
unfolding close
returns-then-is_same c = search branches

pub returns : goal.returns
unfolding close
returns c = search branches
