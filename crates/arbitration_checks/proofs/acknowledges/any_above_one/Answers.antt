use mathlib.Core.Path.{◌∙◌, sym}
use Rattle.std.proofs.Common.{rules, tests}
use Rattle.std.proofs.lemmas.Iterator.{YieldsList-from_slice}
use Rattle.std.proofs.lemmas.Iterator.Search.{any_from_yields_List}
use Rattle.arbitration_rules.specs.Reply.{above_one}
use Rattle.arbitration_checks.proofs.SearchedMessages.{any-listed}
use Rattle.arbitration_checks.proofs.acknowledges.any_above_one.Goals as goal

pub returns : goal.returns
returns c =
    let acks = c.args.acks.now in
    any_from_yields_List above_one _ _ c.any.result c.any.ensures.ran (YieldsList-from_slice acks cc)
    (λ x b q k. search (rules, tests))
    ∙ sym (any-listed above_one acks)
