use mathlib.Core.Path.{◌∙◌}
use Rattle.dump_reader.proofs.Same.{pointwise-same}
use Rattle.dump_reader.proofs.words.is_same.Goals as goal

pub returns : goal.returns
returns c = c.eq.ensures ∙ pointwise-same _ _
