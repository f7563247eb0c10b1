-- `usi_text::put_driven` meets its contract.
use Rattle.text.proofs.Putting.{put_next}
use Rattle.usi_text.proofs.put_driven.Goals as goal

pub returns : goal.returns
returns c = rw (← c.driven_byte.ensures) (put_next _ _ c.put_bytes-next.ensures c.put_byte.ensures)
