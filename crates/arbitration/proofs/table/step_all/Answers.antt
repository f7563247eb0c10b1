-- A pass that samples is the sampling pass of what it samples; in another each module writes its registers.
use mathlib.Core.Path.{◌≡◌, refl, sym, ◌∙◌}
use borrow.Author.Rules.{rules}
use Rattle.arbitration_pass.specs.Pass.{sampling_pass, sampled, wrote_at}
use Rattle.arbitration.proofs.PassLaws.{sampled-applied, wrote-applied, sampling-passed}
use Rattle.arbitration.proofs.table.step_all.Goals as goal

pub returns-then-samples : goal.returns-then-samples
returns-then-samples c =
    let sampling = c.sampling-sampling.result in
    let did = c.step_each.ensures (sampling_pass sampling)
    (record {
      applies = λ usi i after few step.
          let made : after ≡ sampled sampling usi = search rules in made ∙ sampled-applied sampling i usi few;
    }) in
    let same = sampling-passed c.args.pass (sym c.samples.ensures ∙ c.if-samples.true) c.args.count c.args.table.now in
    rw (did.0, did.1, c.sampling-sampling.ensures, same) (refl, refl)

pub returns-else-samples : goal.returns-else-samples
returns-else-samples c =
    let did = c.step_each-else-samples.ensures c.args.pass
    (record {
      applies = λ usi i after few step.
          let made : after ≡ wrote_at c.args.pass i usi = search rules in
          made ∙ wrote-applied c.args.pass (sym c.samples.ensures ∙ c.if-samples.false) i usi few;
    }) in
    (did.1, did.0)
