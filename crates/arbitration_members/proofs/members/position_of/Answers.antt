-- Within the longest message, and past it.
use Rattle.laws.proofs.Branches.{branches}
use Rattle.arbitration_members.proofs.members.position_of.Goals as goal

pub returns-then-index-lt-MAX_LENGTH : goal.returns-then-index-lt-MAX_LENGTH
returns-then-index-lt-MAX_LENGTH c = search branches

pub returns : goal.returns
returns c = search branches
