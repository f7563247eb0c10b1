use Rattle.laws.proofs.Branches.{branches}
use Rattle.usi_i2c.specs.Rules.{end_flags}
use Rattle.usi_i2c.proofs.end_flags.Goals as goal

pub returns-then-usicnt-eq1 : goal.returns-then-usicnt-eq1
unfolding end_flags
returns-then-usicnt-eq1 c = search branches

pub returns : goal.returns
unfolding end_flags
returns c = search branches
