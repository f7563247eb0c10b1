-- What is left of the size, and what is left of the lengths.
use Rattle.catalogue.proofs.Sums.{Left}
use Rattle.catalogue.proofs.lists.sum_to.Given as goal

abbrev pub invariant-loop-length : goal.invariant-loop-length
invariant-loop-length l = Left l.lengths l.size l.left l.length-index
