-- The number of the place.
use mathlib.Core.Path.{ap, ◌∙◌}
use Rattle.catalogue.specs.declared.places.Located.{Located}
use Rattle.catalogue.proofs.Placed.{number-kept}
use Rattle.catalogue.proofs.number.Goals as goal

pub returns : goal.returns
returns c = ap (λ (p : Located). p.number) c.locate-place.ensures ∙ number-kept _ _ _
