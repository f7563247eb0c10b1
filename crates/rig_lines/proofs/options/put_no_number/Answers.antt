-- `rig_lines::options::put_no_number` meets its contract.
use Rattle.text.proofs.Putting.{put_next}
use Rattle.rig_lines.proofs.options.put_no_number.Goals as goal

pub returns : goal.returns
returns c = search put_next
