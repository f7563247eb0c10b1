-- What became of each master.
use Rattle.arbitration.specs.Prepared.{replied_by}
use Rattle.arbitration.proofs.reply.answered.Goals as goal

pub returns : goal.returns
unfolding replied_by
returns c = rw c.seats-seats.ensures
