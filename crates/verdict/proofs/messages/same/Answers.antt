use mathlib.Core.Path.{◌∙◌}
use Rattle.verdict.proofs.Compared.{same-pointwise}
use Rattle.verdict.proofs.messages.same.Goals as goal

pub returns : goal.returns
returns c = c.eq.ensures ∙ same-pointwise c.args.message.now c.args.other.now
