-- The parts passed so far are marked.
use Rattle.arbitration_messages.proofs.Marking.{Marked}
use Rattle.arbitration_messages.proofs.marks.part_marks.Given as goal

abbrev pub invariant-loop-part : goal.invariant-loop-part
invariant-loop-part l = Marked l.parts l.marks l.at l.part-index
