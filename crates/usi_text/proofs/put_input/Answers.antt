-- `usi_text::put_input` meets its contract.
use Rattle.text.proofs.Putting.{put_next}
use Rattle.usi_text.specs.Module.{input_text}
use Rattle.usi_text.proofs.put_input.Goals as goal

pub returns : goal.returns
unfolding input_text
returns c =
    let two = put_next _ _ c.put_flag-past_seen.ensures c.put_flag-past_scl.ensures in
    put_next _ _ (put_next _ _ two c.put_flag-past_sda.ensures) c.put_flag.ensures
