-- `rig_lines::console::put_shown` meets its contract. The invariant: the bytes passed are put.
use Prim.Native.Nat.{◌≤◌}
use lib.ListN.{length, drop}
use Rattle.text.proofs.Putting.{Putting}
use Rattle.rig_lines.specs.Console.{shown_text}
use Rattle.rig_lines.proofs.console.put_shown.Given as goal

abbrev pub invariant-loop-b : goal.invariant-loop-b
invariant-loop-b l =
    (l.b-index ≤ length l.word)
    × Putting l.initial.page l.at (shown_text l.word) (shown_text (drop l.b-index l.word)) l.page l.next
