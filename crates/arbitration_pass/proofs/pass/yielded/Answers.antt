-- Who lost lets go after the byte.
use Rattle.arbitration_pass.specs.Pass.{written}
use Rattle.usi_registers.specs.Registers.{USICNT}
use mathlib.Core.Path.{ap, ◌∙◌}
use Rattle.arbitration_pass.proofs.pass.yielded.Goals as goal

pub returns-in-LetGo : goal.returns-in-LetGo
returns-in-LetGo c = rw c.in-LetGo.is (c.written-in-LetGo.ensures ∙ ap (written USICNT 0x80)
    c.written.ensures)
