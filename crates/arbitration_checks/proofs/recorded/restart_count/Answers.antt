use mathlib.Core.Path.{◌≡◌, sym, ◌∙◌}
use Rattle.std.specs.List.{count_by}
use borrow.Author.Rules.{rules}
use Rattle.arbitration_rules.specs.Outcome.{restarts}
use Rattle.arbitration_checks.proofs.Carried.{restarts-counted}
use Rattle.arbitration_checks.proofs.recorded.restart_count.Goals as goal

pub returns : goal.returns
returns c =
    let counted : c.count.result ≡ count_by restarts c.args.carried.now = search rules in
    counted ∙ sym (restarts-counted c.args.carried.now)
