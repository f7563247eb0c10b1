-- `dump_reader::timescale::power_of` meets its contract.
use Rattle.laws.proofs.Branches.{branches}
use Rattle.dump_reader.specs.Timescale.{power_of}
use Rattle.dump_reader.proofs.timescale.power_of.Goals as goal

pub returns-then-is_same : goal.returns-then-is_same
unfolding power_of
returns-then-is_same c = search branches

pub returns-then-is_same-2 : goal.returns-then-is_same-2
unfolding power_of
returns-then-is_same-2 c = search branches

pub returns-then-is_same-3 : goal.returns-then-is_same-3
unfolding power_of
returns-then-is_same-3 c = search branches

pub returns : goal.returns
unfolding power_of
returns c = search branches
