-- `rig_lines::refusals::put_stamp_refusal` meets its contract.
use Rattle.text.proofs.Putting.{put_next}
use Rattle.rig_lines.proofs.refusals.put_stamp_refusal.Goals as goal

pub returns : goal.returns
returns c = search put_next
