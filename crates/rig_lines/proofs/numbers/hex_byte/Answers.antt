-- `rig_lines::numbers::hex_byte` meets its contract.
use Rattle.laws.proofs.Branches.{branches}
use Rattle.rig_lines.specs.Numbers.{byte_in}
use Rattle.rig_lines.proofs.numbers.hex_byte.Goals as goal

pub returns-then-word-gt2 : goal.returns-then-word-gt2
unfolding byte_in
returns-then-word-gt2 c = search branches

pub returns : goal.returns
unfolding byte_in
returns c = search branches
