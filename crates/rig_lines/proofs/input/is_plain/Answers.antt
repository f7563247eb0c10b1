-- `rig_lines::input::is_plain` meets its contract.
use Rattle.rig_lines.proofs.input.is_plain.Goals as goal

pub returns : goal.returns
returns c = rw c.is_control.ensures
