use Rattle.laws.proofs.Branches.{branches}
use Rattle.usi_registers.specs.Rules.{count_flags}
use Rattle.usi_registers.proofs.count_flags.Goals as goal

pub returns-then-not-counting : goal.returns-then-not-counting
unfolding count_flags
returns-then-not-counting c = search branches

pub returns-then-value-eq0 : goal.returns-then-value-eq0
unfolding count_flags
returns-then-value-eq0 c = search branches

pub returns : goal.returns
unfolding count_flags
returns c = search branches
