-- `usi_text::put_spaced` meets its contract.
use Rattle.text.proofs.Putting.{put_next}
use Rattle.usi_text.proofs.put_spaced.Goals as goal

pub returns : goal.returns
returns c = put_next _ _ c.put_byte-next.ensures c.put_hex_byte.ensures
