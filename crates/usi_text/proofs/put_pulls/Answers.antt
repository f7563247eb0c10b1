-- `usi_text::put_pulls` meets its contract.
use Rattle.text.proofs.Putting.{put_next}
use Rattle.usi_text.proofs.put_pulls.Goals as goal

pub returns : goal.returns
returns c =
    let put = put_next _ _ c.put_bytes-past_label.ensures c.put_byte.ensures in
    rw (c.lines_byte.ensures, c.pulls_scl.ensures, c.pulls_sda.ensures) at put
