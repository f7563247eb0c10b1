use mathlib.Core.Path.{◌∙◌}
use lib.Dec.{leb}
use Rattle.std.proofs.Common.{rules, tests}
use Rattle.std.proofs.lemmas.Iterator.{YieldsList-from_slice, YieldsList-from_zip}
use Rattle.std.proofs.lemmas.Iterator.Search.{any_from_yields_List}
use Rattle.arbitration_members.proofs.Someone.{passes, someone-pairs}
use Rattle.arbitration_members.proofs.members.any_through.Goals as goal

pub returns : goal.returns
returns c =
    let contending = c.args.contending in
    let values = c.args.sizes in
    any_from_yields_List (passes (λ size. leb size c.args.sent)) c.any.new.self _ c.any.result c.any.ensures.ran
    (YieldsList-from_zip (YieldsList-from_slice contending cc) (YieldsList-from_slice values cc))
    (λ x b q k. search (rules, tests))
    ∙ someone-pairs (λ size. leb size c.args.sent) contending values
