-- What the round carried is entered for the messages passed.
use Prim.Native.Nat.{◌≤◌}
use mathlib.Core.Path.{◌≡◌}
use lib.ListN.{length}
use Rattle.arbitration_rules.specs.Limits.{max_masters}
use Rattle.night.proofs.Entering.{rounds_at, modules_at}
use Rattle.night.proofs.carried.enter.Given as goal

abbrev pub invariant-loop-i : goal.invariant-loop-i
invariant-loop-i l =
    (l.seat ≤ l.i)
    × (length l.rounds ≡ max_masters)
    × (length l.modules ≡ max_masters)
    × (rounds_at l.count l.number l.seats l.left l.initial.rounds 0 0 ≡ rounds_at l.count l.number l.seats l.left l.rounds l.i l.seat)
    × (modules_at l.count l.number l.seats l.left l.initial.rounds l.initial.modules 0 0 ≡ modules_at l.count l.number l.seats l.left l.rounds l.modules l.i l.seat)
