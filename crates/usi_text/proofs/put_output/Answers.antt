-- `usi_text::put_output` meets its contract.
use Rattle.text.proofs.Putting.{put_next}
use Rattle.usi_text.specs.Module.{output_text}
use Rattle.usi_text.proofs.put_output.Goals as goal

pub returns : goal.returns
unfolding output_text
returns c = put_next _ _ (put_next _ _ c.put_flag-past_latch.ensures c.put_flag-past_enable.ensures) c.put_flag.ensures
