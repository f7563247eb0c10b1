-- The refusals in their order, then the board sought in the corrections, then in the standing catalogue.
use native.Mathlib.Omega.{arith}
use mathlib.Core.Path.{◌∙◌}
use Rattle.catalogue.proofs.Judged.{sound, corrections-refused, standing-refused, position-within}
use Rattle.catalogue.proofs.Judged.{corrected-found, standing-found, neither-found}
use Rattle.catalogue.proofs.locate.Goals as goal

pub returns-in-Err : goal.returns-in-Err
returns-in-Err c =
    let refused = c.in-Err.ensures in
    c.refused.ensures ∙ corrections-refused _ _ _ _ refused.1 (λ none. omega (arith, refused.0, none))

pub returns-in-Err-judge : goal.returns-in-Err-judge
returns-in-Err-judge c =
    let refused = c.in-Err-judge.ensures in
    c.refused-in-Err-judge.ensures
    ∙ standing-refused _ _ _ c.in_default.ensures _ refused.1 (λ none. omega (arith, refused.0, none))

pub found-requires : goal.found-requires
found-requires c =
    let good = sound _ c.in_default.ensures in
    (position-within _ _ good _ c.in-Some.ensures, omega (arith, good.summed, c.well_formed.1.0.0))

pub returns-in-Some : goal.returns-in-Some
returns-in-Some c =
    c.found.ensures ∙ corrected-found _ _ _ c.in_default.ensures c.in_default-judge.ensures _ c.in-Some.ensures

pub found-requires-in-Some-index_of : goal.found-requires-in-Some-index_of
found-requires-in-Some-index_of c =
    let good = sound _ c.in_default-judge.ensures in
    (position-within _ _ good _ c.in-Some-index_of.ensures, omega (arith, good.summed, c.well_formed.1.1.1.1.0.0))

pub returns-in-Some-index_of : goal.returns-in-Some-index_of
returns-in-Some-index_of c =
    c.found-in-Some-index_of.ensures
    ∙ standing-found _ _ _ c.in_default.ensures c.in_default-judge.ensures c.in_default-index_of.ensures _
    c.in-Some-index_of.ensures

pub returns : goal.returns
returns c =
    c.refused-2.ensures
    ∙ neither-found _ _ _ c.in_default.ensures c.in_default-judge.ensures c.in_default-index_of.ensures
    c.in_default-index_of-2.ensures
