-- The search for a pair of stamps that does not rise.
use Rattle.trace.proofs.Scanned.{Scanned}
use Rattle.trace.proofs.search.bad_stamp.Given as goal

abbrev pub invariant-loop-i : goal.invariant-loop-i
invariant-loop-i l = Scanned l.stamps l.i
