-- `dump_reader::timescale::number_of` meets its contract.
use native.Mathlib.Omega.{arith}
use Rattle.laws.proofs.Branches.{branches}
use Rattle.dump_reader.specs.Timescale.{number_of}
use Rattle.dump_reader.proofs.timescale.number_of.Goals as goal

pub returns-then-power-eq0 : goal.returns-then-power-eq0
unfolding number_of
returns-then-power-eq0 c = record { value = search branches; upper_bound = omega arith }

pub returns-then-power-eq1 : goal.returns-then-power-eq1
unfolding number_of
returns-then-power-eq1 c = record { value = search branches; upper_bound = omega arith }

pub returns : goal.returns
unfolding number_of
returns c = record { value = search branches; upper_bound = omega arith }
