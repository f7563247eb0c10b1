use Rattle.laws.proofs.Branches.{branches}
use Rattle.usi_i2c.specs.Rules.{condition_flags}
use Rattle.usi_i2c.proofs.condition_flags.Goals as goal

pub returns-then-started : goal.returns-then-started
unfolding condition_flags
returns-then-started c = search branches

pub returns-then-stopped : goal.returns-then-stopped
unfolding condition_flags
returns-then-stopped c = search branches

pub returns : goal.returns
unfolding condition_flags
returns c = search branches
