-- The boards seen so far rise.
use Rattle.catalogue.proofs.Rising.{Risen}
use Rattle.catalogue.proofs.lists.rises.Given as goal

abbrev pub invariant-loop-i : goal.invariant-loop-i
invariant-loop-i l = Risen l.boards l.i
