-- `usi_text::put_module` meets its contract.
use Rattle.text.proofs.Putting.{put_next}
use Rattle.usi_text.specs.Module.{module_text}
use Rattle.usi_text.proofs.put_module.Goals as goal

pub returns : goal.returns
unfolding module_text
returns c =
    let outputs = put_next _ _ c.put_registers-past_registers.ensures c.put_output-past_output.ensures in
    put_next _ _ (put_next _ _ outputs c.put_input-past_input.ensures) c.put_lines.ensures
