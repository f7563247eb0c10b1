-- The next seat where the message waits.
use Rattle.laws.proofs.Branches.{branches}
use Rattle.night.proofs.carried.seat_after.Goals as goal

pub returns-then-waits : goal.returns-then-waits
returns-then-waits c = search branches
