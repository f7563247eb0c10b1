-- The module that the write hands back, or its refusal.
use mathlib.Core.Path.{◌≡◌, refl, sym, ap, ◌∙◌}
use Prim.Native.Nat.{ℕ}
use Rattle.std.specs.Prelude.{Result, Ok, Err}
use Rattle.usi.specs.declared.Usi.{Usi}
use Rattle.usi.specs.declared.Refused.{Refused}
use Rattle.usi.specs.declared.Written.{Written}
use Rattle.usi.specs.Step.{module_of, answered, write_byte}
use Rattle.arbitration_pass.proofs.pass.written.Goals as goal

abbrev handed : Result Written Refused → Usi
handed (Ok w) = w.usi
handed (Err r) = r.usi

same : (before : ℕ) (step : Result Usi Refused) → handed (answered before step) ≡ module_of step
same before (Ok u) = refl
same before (Err r) = refl

pub returns-in-Ok : goal.returns-in-Ok
returns-in-Ok c =
    let a = c.args in
    sym (ap handed c.in-Ok.is) ∙ ap handed c.write.ensures ∙ same a.usi.usictl1 (write_byte a.usi a.address a.value)

pub returns-in-Err : goal.returns-in-Err
returns-in-Err c =
    let a = c.args in
    sym (ap handed c.in-Err.is) ∙ ap handed c.write.ensures ∙ same a.usi.usictl1 (write_byte a.usi a.address a.value)
