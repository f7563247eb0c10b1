-- `dump_reader::is_closed` meets its contract.
use Rattle.laws.proofs.Branches.{branches}
use Rattle.dump_reader.proofs.is_closed.Goals as goal

pub returns-then-text-eq0 : goal.returns-then-text-eq0
returns-then-text-eq0 c = search branches

pub returns : goal.returns
returns c = search branches
