-- `usi_text::put_registers` meets its contract.
use Rattle.text.proofs.Putting.{put_next}
use Rattle.usi_text.specs.Module.{registers_text}
use Rattle.usi_text.proofs.put_registers.Goals as goal

pub returns : goal.returns
unfolding registers_text
returns c =
    let two = put_next _ _ c.put_hex_byte-past_ctl0.ensures c.put_spaced-past_ctl1.ensures in
    let four = put_next _ _ (put_next _ _ two c.put_spaced-past_ckctl.ensures) c.put_spaced-past_cnt.ensures in
    put_next _ _ (put_next _ _ four c.put_spaced-past_srl.ensures) c.put_spaced.ensures
