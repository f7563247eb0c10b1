use Rattle.laws.proofs.Branches.{branches}
use Rattle.usi_i2c.specs.Rules.{loss_control}
use Rattle.usi_i2c.proofs.loss_control.Goals as goal

pub returns-then-lost : goal.returns-then-lost
unfolding loss_control
returns-then-lost c = search branches

pub returns : goal.returns
unfolding loss_control
returns c = search branches
