-- As many contend as there are messages.
use Rattle.arbitration_members.specs.Members.{entered}
use Rattle.arbitration_members.proofs.members.Members.entered.Goals as goal

pub returns : goal.returns
unfolding entered
returns c = rw (c.with_message.ensures, c.sizes_of.ensures)
