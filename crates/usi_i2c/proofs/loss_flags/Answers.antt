use Rattle.laws.proofs.Branches.{branches}
use Rattle.usi_i2c.specs.Rules.{loss_flags}
use Rattle.usi_i2c.proofs.loss_flags.Goals as goal

pub returns-then-lost : goal.returns-then-lost
unfolding loss_flags
returns-then-lost c = search branches

pub returns : goal.returns
unfolding loss_flags
returns c = search branches
