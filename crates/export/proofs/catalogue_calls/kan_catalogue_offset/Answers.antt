-- The offset of the place.
use mathlib.Core.Path.{ap}
use Rattle.catalogue.specs.declared.places.Located.{Located}
use Rattle.export.proofs.catalogue_calls.kan_catalogue_offset.Goals as goal

pub returns : goal.returns
returns c = ap (λ (p : Located). p.offset) c.locate-place.ensures
