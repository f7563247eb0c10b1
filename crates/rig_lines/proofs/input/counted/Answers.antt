-- `rig_lines::input::counted` meets its contract.
use Rattle.rig_lines.proofs.input.counted.Goals as goal

pub returns : goal.returns
returns c = rw c.more.ensures
