use mathlib.Core.Path.{◌∙◌}
use Rattle.std.proofs.Common.{rules, tests}
use Rattle.std.proofs.lemmas.Iterator.{YieldsList-from_slice, YieldsList-from_zip}
use Rattle.std.proofs.lemmas.Iterator.Search.{all_from_yields_List}
use Rattle.verdict.proofs.Compared.{taken, acknowledged-pairs}
use Rattle.verdict.proofs.messages.acknowledged.Goals as goal

pub returns : goal.returns
returns c =
    let message = c.args.message.now in
    let acks = c.args.acks.now in
    all_from_yields_List taken c.all.new.self _ c.all.result c.all.ensures.ran
    (YieldsList-from_zip (YieldsList-from_slice message cc) (YieldsList-from_slice acks cc))
    (λ x b q k. search (rules, tests))
    ∙ acknowledged-pairs message acks
