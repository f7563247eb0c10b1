-- `dump_reader::values::unknown` meets its contract.
use Rattle.laws.proofs.Branches.{branches}
use Rattle.dump_reader.specs.Values.{unknown}
use Rattle.dump_reader.proofs.values.unknown.Goals as goal

pub returns-then-word-lt2 : goal.returns-then-word-lt2
unfolding unknown
returns-then-word-lt2 c = search branches

pub returns : goal.returns
unfolding unknown
returns c = search branches
