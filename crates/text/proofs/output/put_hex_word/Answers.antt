-- `text::output::put_hex_word` meets its contract.
use Rattle.text.proofs.Putting.{put_then}
use Rattle.text.proofs.Spelling.{hex-word}
use Rattle.text.proofs.output.put_hex_word.Goals as goal

pub returns : goal.returns
returns c = put_then _ _ _ _ _ (hex-word _) c.put_hex_byte-next.ensures c.put_hex_byte.ensures
