-- Each case is that of the divider's test.
use Rattle.laws.proofs.Branches.{branches}
use Rattle.usi.proofs.Usi.tick_i2c.Goals as goal

pub returns-then-overruns : goal.returns-then-overruns
returns-then-overruns c = search branches

pub returns : goal.returns
returns c = search branches
