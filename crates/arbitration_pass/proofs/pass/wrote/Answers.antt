-- What each operation writes.
use mathlib.Core.Path.{ap, ◌∙◌}
use Rattle.usi_registers.specs.Registers.{USICTL0, USICNT, USISRL}
use Rattle.arbitration_pass.specs.Pass.{written}
use Rattle.arbitration_pass.proofs.pass.wrote.Goals as goal

pub returns-in-Enter : goal.returns-in-Enter
returns-in-Enter c = rw c.in-Enter.is c.entered.ensures

pub returns-in-Sample : goal.returns-in-Sample
returns-in-Sample c = rw c.in-Sample.is

pub returns-in-Pull : goal.returns-in-Pull
returns-in-Pull c = rw c.in-Pull.is
    (c.written-in-Pull.ensures ∙ ap (written USICTL0 0xca) (c.written.ensures ∙ ap (written USICTL0 0xce)
    c.written-low.ensures))

pub returns-in-Clear : goal.returns-in-Clear
returns-in-Clear c = rw c.in-Clear.is
    c.written-in-Clear.ensures

pub returns-in-Load : goal.returns-in-Load
returns-in-Load c = rw c.in-Load.is
    (c.written-in-Load-2.ensures ∙ ap (written USICNT 0x08) (c.written-ready.ensures ∙ ap (written USICTL0 0xca)
    c.written-in-Load.ensures))

pub returns-in-LetGo : goal.returns-in-LetGo
returns-in-LetGo c = rw c.in-LetGo.is
    (c.written-in-LetGo-2.ensures ∙ ap (written USICNT 0x01) c.written-in-LetGo.ensures)

pub returns-in-Lower : goal.returns-in-Lower
returns-in-Lower c = rw c.in-Lower.is
    (c.written-in-Lower-2.ensures ∙ ap (written USICNT 0x01) (c.written-low-in-Lower.ensures ∙ ap (written USISRL 0x00)
    c.written-in-Lower.ensures))

pub returns-in-Raise : goal.returns-in-Raise
returns-in-Raise c = rw c.in-Raise.is
    (c.written-in-Raise-2.ensures ∙ ap (written USICTL0 0xce) c.written-in-Raise.ensures)

pub returns-in-Rest : goal.returns-in-Rest
returns-in-Rest c = rw c.in-Rest.is
    c.written-in-Rest.ensures

pub returns-in-Rise : goal.returns-in-Rise
returns-in-Rise c = rw c.in-Rise.is
    (c.written-in-Rise-2.ensures ∙ ap (written USICNT 0x01) (c.written-high.ensures ∙ ap (written USICTL0 0xca)
    c.written-in-Rise.ensures))

pub returns-in-Heed : goal.returns-in-Heed
returns-in-Heed c = rw c.in-Heed.is
    c.written-in-Heed.ensures
