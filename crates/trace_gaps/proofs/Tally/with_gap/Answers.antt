-- `trace_gaps::Tally::with_gap` meets its contract.
use Rattle.laws.proofs.Branches.{branches}
use Rattle.trace_gaps.specs.Gaps.{with_gap}
use Rattle.trace_gaps.proofs.Tally.with_gap.Goals as goal

pub returns-then-not-framed : goal.returns-then-not-framed
unfolding with_gap
returns-then-not-framed c = search branches

pub returns-then-gap-limit : goal.returns-then-gap-limit
unfolding with_gap
returns-then-gap-limit c = search branches

pub returns : goal.returns
unfolding with_gap
returns c = search branches
