-- `trace_gaps::counted` meets its contract. The invariant: the gaps of the samples passed are in the tally.
use lib.ListN.{length}
use Rattle.trace_gaps.proofs.Counting.{Counting}
use Rattle.trace_gaps.proofs.counted.Given as goal

abbrev pub invariant-loop-stamp : goal.invariant-loop-stamp
invariant-loop-stamp l = Counting l.stamps l.levels l.limit l.decoder l.tally l.last (length l.yielded)
