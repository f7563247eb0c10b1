use mathlib.Core.Path.{◌≡◌, refl, sym, ◌∙◌}
use Rattle.std.specs.List.{sum}
use Rattle.std.proofs.lemmas.List.Recursion.{is_sum_by}
use borrow.Author.Rules.{rules}
use Rattle.arbitration_rules.specs.Reply.{total}
use Rattle.arbitration_messages.proofs.lengths.total.Goals as goal

pub returns : goal.returns
returns c =
    let summed : c.sum.result ≡ sum c.args.lengths.now = search rules in
    summed ∙ sym (is_sum_by total (λ x. x) refl (λ _ _. refl) c.args.lengths.now)
