-- Whether the place is in the corrections.
use mathlib.Core.Path.{ap}
use mir.Val.{bool_byte}
use Rattle.catalogue.specs.declared.places.Located.{Located}
use Rattle.export.proofs.catalogue_calls.kan_catalogue_corrected.Goals as goal

pub returns : goal.returns
returns c = ap (λ (p : Located). bool_byte p.corrected) c.locate-place.ensures
