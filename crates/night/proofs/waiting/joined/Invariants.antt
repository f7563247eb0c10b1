-- The lists passed that wait lie one after the other.
use lib.ListN.{replicate}
use Rattle.arbitration_messages.specs.Marks.{max_sent}
use Rattle.night.proofs.Gathered.{Gathering}
use Rattle.night.proofs.waiting.joined.Given as goal

abbrev pub invariant-loop-i : goal.invariant-loop-i
invariant-loop-i g l = Gathering l.rounds l.lengths l.fn.list (replicate max_sent l.fn.blank) l.out l.i l.rest l.size
