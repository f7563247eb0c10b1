use Rattle.laws.proofs.Branches.{branches}
use Rattle.usi_i2c.specs.Rules.{condition_count}
use Rattle.usi_i2c.proofs.condition_count.Goals as goal

pub returns-then-started : goal.returns-then-started
unfolding condition_count
returns-then-started c = search branches

pub returns : goal.returns
unfolding condition_count
returns c = search branches
