-- The search for a message out of the limits.
use Rattle.laws.proofs.Search.{Passed}
use Rattle.arbitration_rules.specs.Reply.{itself}
use Rattle.arbitration_messages.specs.Lengths.{bad_lengths_of}
use Rattle.arbitration_messages.proofs.lengths.first_bad.Given as goal

abbrev pub invariant-loop-i : goal.invariant-loop-i
invariant-loop-i l = Passed itself (bad_lengths_of l.counts l.lengths) l.i
