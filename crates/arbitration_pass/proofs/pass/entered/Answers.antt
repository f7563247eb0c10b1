-- Three registers after power-up.
use mathlib.Core.Path.{ap, ◌∙◌}
use Rattle.usi_registers.specs.Registers.{USICTL0, USICTL1, USICKCTL}
use Rattle.arbitration_pass.specs.Pass.{written}
use Rattle.arbitration_pass.proofs.pass.entered.Goals as goal

pub returns : goal.returns
returns c = c.written-2.ensures ∙ ap (written USICTL0 0xc8) (c.written.ensures ∙ ap (written USICTL1 0x41)
    (c.written-clocked.ensures ∙ ap (written USICKCTL 0x22) c.power_up.ensures))
