-- `rig_lines::options::put_command` meets its contract.
use Rattle.text.proofs.Putting.{put_next}
use Rattle.rig_lines.proofs.options.put_command.Goals as goal

pub returns : goal.returns
returns c = search put_next
