-- The messages passed so far are marked; none has more than 64 bytes.
use Prim.Native.Nat.{◌*◌, ◌≤◌}
use Rattle.arbitration_rules.specs.Limits.{max_length}
use Rattle.arbitration_messages.proofs.Marking.{Started}
use Rattle.arbitration_messages.proofs.marks.message_marks.Given as goal

abbrev pub invariant-loop-length : goal.invariant-loop-length
invariant-loop-length l =
    (l.from ≤ max_length * l.length-index)
    × Started l.length-items l.initial.marks l.marks l.from l.length-index
