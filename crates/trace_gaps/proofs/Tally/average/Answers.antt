-- `trace_gaps::Tally::average` meets its contract.
use Rattle.laws.proofs.Branches.{branches}
use Rattle.trace_gaps.specs.Gaps.{average}
use Rattle.trace_gaps.proofs.Tally.average.Goals as goal

pub returns-then-self-eq0 : goal.returns-then-self-eq0
unfolding average
returns-then-self-eq0 c = search branches

pub returns : goal.returns
unfolding average
returns c = search branches
