use Rattle.laws.proofs.Branches.{branches}
use Rattle.usi_i2c.specs.Rules.{phase_after}
use Rattle.usi_i2c.proofs.phase_after.Goals as goal

pub returns-then-not-clocking : goal.returns-then-not-clocking
unfolding phase_after
returns-then-not-clocking c = search branches

pub returns-then-phase : goal.returns-then-phase
unfolding phase_after
returns-then-phase c = search branches

pub returns : goal.returns
unfolding phase_after
returns c = search branches
