-- `rig_lines::console::put_line` meets its contract.
use Rattle.text.proofs.Putting.{put_as}
use Rattle.rig_lines.proofs.console.put_line.Goals as goal

pub returns : goal.returns
returns c = put_as _ _ (rw c.line_of.ensures) c.put_bytes.ensures
