-- `trace_gaps::all_apart` meets its contract. The invariant: the stamps passed are so far apart.
use mathlib.Core.Path.{◌≡◌}
use lib.ListN.{drop}
use Rattle.trace_gaps.specs.Gaps.{all_apart}
use Rattle.trace_gaps.proofs.all_apart.Given as goal

abbrev pub invariant-loop-stamp : goal.invariant-loop-stamp
invariant-loop-stamp l = all_apart l.gap l.first l.stamps ≡ all_apart l.gap l.last (drop l.stamp-index l.stamps)
