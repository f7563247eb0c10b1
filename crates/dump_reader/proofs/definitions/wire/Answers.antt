-- `dump_reader::definitions::wire` meets its contract.
use Rattle.laws.proofs.Branches.{branches}
use Rattle.dump_reader.specs.Definitions.{wire}
use Rattle.dump_reader.proofs.definitions.wire.Goals as goal

pub returns-then-wires-lt2 : goal.returns-then-wires-lt2
unfolding wire
returns-then-wires-lt2 c = search branches

pub returns-else-wires-lt2 : goal.returns-else-wires-lt2
unfolding wire
returns-else-wires-lt2 c = search branches
