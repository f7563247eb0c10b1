-- `rig_lines::console::put_padded` meets its contract.
use Rattle.text.proofs.Putting.{put_then}
use Rattle.rig_lines.proofs.console.put_padded.Goals as goal

pub returns : goal.returns
returns c = put_then _ _ _ _ _ (rw c.saturating_sub.ensures)
    c.put_bytes-end.ensures c.put_spaces.ensures
