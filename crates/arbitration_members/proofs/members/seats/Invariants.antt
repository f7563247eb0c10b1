-- The seats gathered so far.
use Prim.Native.Nat.{◌≤◌, min}
use mathlib.Core.Path.{◌≡◌}
use Rattle.laws.proofs.Loops.{paired}
use Rattle.arbitration_rules.specs.Limits.{max_masters}
use Rattle.arbitration_members.specs.Members.{seat_of, writes_clear}
use Rattle.arbitration_members.proofs.members.seats.Given as goal

abbrev pub invariant-loop-i : goal.invariant-loop-i
invariant-loop-i l = (l.i ≤ min l.count max_masters)
    × (l.out ≡ paired (seat_of writes_clear) l.contending l.positions l.initial.out l.i)
