-- `trace_gaps::Tally::fourfold` meets its contract.
use Rattle.laws.proofs.Branches.{branches}
use Rattle.trace_gaps.specs.Gaps.{fourfold}
use Rattle.trace_gaps.proofs.Tally.fourfold.Goals as goal

pub returns-then-self-eq0 : goal.returns-then-self-eq0
unfolding fourfold
returns-then-self-eq0 c = search branches

pub returns : goal.returns
unfolding fourfold
returns c = search branches
