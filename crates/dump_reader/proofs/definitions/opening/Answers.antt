-- `dump_reader::definitions::opening` meets its contract.
use Rattle.laws.proofs.Branches.{branches}
use Rattle.dump_reader.specs.Definitions.{opening}
use Rattle.dump_reader.proofs.definitions.opening.Goals as goal

pub returns-then-wires-ge2 : goal.returns-then-wires-ge2
unfolding opening
returns-then-wires-ge2 c = search branches

pub returns-else-wires-ge2 : goal.returns-else-wires-ge2
unfolding opening
returns-else-wires-ge2 c = search branches
