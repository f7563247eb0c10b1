-- Shifted down and masked, the three bits are the field.
use Rattle.bits.proofs.Masks.{field-mask}
use Rattle.usi_registers.proofs.divider.Goals as goal

pub returns : goal.returns
returns c = field-mask 5 3 c.args.usickctl
