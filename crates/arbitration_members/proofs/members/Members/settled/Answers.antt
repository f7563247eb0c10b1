-- Nobody lost in the next byte yet.
use mathlib.Core.Path.{refl}
use Rattle.arbitration_members.specs.Members.{settled}
use Rattle.arbitration_members.proofs.members.Members.settled.Goals as goal

pub returns : goal.returns
unfolding settled
returns c = refl
