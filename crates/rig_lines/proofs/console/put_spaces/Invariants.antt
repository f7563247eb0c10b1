-- `rig_lines::console::put_spaces` meets its contract. The invariant: so many spaces are left to put.
use Prim.Native.Nat.{◌-◌}
use Rattle.text.proofs.Putting.{Putting}
use Rattle.rig_lines.specs.Console.{spaces}
use Rattle.rig_lines.proofs.console.put_spaces.Given as goal

abbrev pub invariant-loop : goal.invariant-loop
invariant-loop l = Putting l.initial.page l.at (spaces l.n) (spaces (l.n - l.counter)) l.page l.next
