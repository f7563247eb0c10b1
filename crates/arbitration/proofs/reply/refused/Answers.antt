-- Nobody is in.
use mathlib.Core.Path.{refl}
use Rattle.arbitration_rules.specs.Reply.{refused}
use Rattle.arbitration.proofs.reply.refused.Goals as goal

pub returns : goal.returns
unfolding refused
returns c = refl
