-- `usi_text::put_drives` meets its contract.
use Rattle.text.proofs.Putting.{put_next}
use Rattle.usi_text.specs.Module.{drives_text}
use Rattle.usi_text.proofs.put_drives.Goals as goal

pub returns : goal.returns
unfolding drives_text
returns c =
    let put = put_next _ _ c.put_driven-past_sclk.ensures c.put_driven.ensures in
    rw c.spi_lines-lines.ensures at put
