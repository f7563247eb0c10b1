-- The first masters are judged.
use Rattle.arbitration_members.proofs.Judging.{Judging}
use Rattle.arbitration_members.proofs.members.judged.Given as goal

abbrev pub invariant-loop-i : goal.invariant-loop-i
invariant-loop-i l = Judging l.position l.al l.initial.still l.initial.out l.initial.places l.still
    l.out l.places l.i
