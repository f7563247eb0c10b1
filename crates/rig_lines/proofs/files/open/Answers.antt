-- `rig_lines::files::open` meets its contract.
use Rattle.std.proofs.Common.{rules, sym, ◌∙◌}
use Rattle.std.proofs.lemmas.Result.{err_from_is_err_and}
use mathlib.Core.Bool.{false≢true}
use Rattle.rig_lines.specs.Opening.{standard, dash, file, failed}
use Rattle.rig_lines.proofs.files.open.Goals as goal

pub returns-then-argument-eq0 : goal.returns-then-argument-eq0
returns-then-argument-eq0 g c = rw c.begin.ensures (standard (search rules))

pub returns-then-same : goal.returns-then-same
returns-then-same g c = rw c.begin-then-same.ensures (dash (c.same.ensures.0 c.if-same.true))

pub returns-in_default : goal.returns-in_default
returns-in_default g c =
    failed _ (search rules) (λ dashed. false≢true (sym c.if-same.false ∙ c.same.ensures.1 dashed))

pub returns-in_err-file : goal.returns-in_err-file
returns-in_err-file g c =
    let p = err_from_is_err_and c.from_residual.result c.from_residual.ensures.1 in
    rw p.1 (failed _ (search rules) (λ dashed. false≢true (sym c.if-same.false ∙ c.same.ensures.1 dashed)))

pub returns : goal.returns
returns g c =
    rw c.begin-2.ensures
    (file _ (search rules) (λ dashed. false≢true (sym c.if-same.false ∙ c.same.ensures.1 dashed)))
