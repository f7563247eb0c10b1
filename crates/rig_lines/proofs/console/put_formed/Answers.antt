-- `rig_lines::console::put_formed` meets its contract.
use Rattle.text.proofs.Putting.{puts}
use Rattle.laws.proofs.Branches.{branches}
use Rattle.rig_lines.specs.Console.{form_byte}
use Rattle.rig_lines.proofs.console.put_formed.Goals as goal

pub returns-then-b-eq-DECIMAL : goal.returns-then-b-eq-DECIMAL
unfolding form_byte
returns-then-b-eq-DECIMAL c = search (puts, branches)

pub returns-then-b-eq-HEX : goal.returns-then-b-eq-HEX
unfolding form_byte
returns-then-b-eq-HEX c = search (puts, branches)

pub returns : goal.returns
unfolding form_byte
returns c = search (puts, branches)
