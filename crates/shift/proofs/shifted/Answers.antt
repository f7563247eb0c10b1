-- `shift::shifted` meets its contract.
use Rattle.laws.proofs.Branches.{branches}
use Rattle.shift.proofs.shifted.Goals as goal

pub returns-then-lsb : goal.returns-then-lsb
returns-then-lsb c = search branches

pub returns : goal.returns
returns c = search branches
