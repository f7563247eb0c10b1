-- Who lost clears the repeated START's flag.
use Rattle.arbitration_pass.specs.Pass.{written}
use Rattle.usi_registers.specs.Registers.{USICNT}
use mathlib.Core.Path.{ap, ◌∙◌}
use Rattle.arbitration_pass.proofs.pass.heeded.Goals as goal

pub returns-then-contending : goal.returns-then-contending
returns-then-contending c = rw c.if-contending.true

pub returns-in-Heed : goal.returns-in-Heed
returns-in-Heed c = rw (c.if-contending.false, c.in-Heed.is)
    (c.written-in-Heed.ensures ∙ ap (written USICNT 0x80) c.written.ensures)
