-- Contending, or not.
use mathlib.Core.Bool.{false}
use Rattle.arbitration_pass.specs.Pass.{wrote, heeded}
use mathlib.Core.Path.{ap, ◌∙◌}
use Rattle.arbitration_pass.proofs.pass.wrote_as.Goals as goal

pub returns-then-contending : goal.returns-then-contending
returns-then-contending c =
    let a = c.args in
    rw c.if-contending.true (c.wrote.ensures ∙ ap (wrote a.operation a.byte)
    ((rw c.if-contending.true at c.heeded-usi.ensures) ∙ c.kept.ensures))

pub returns : goal.returns
returns c = rw c.if-contending.false
    ((rw c.if-contending.false at c.heeded-usi.ensures)
    ∙ ap (heeded c.args.operation false) c.kept.ensures)
