-- `rig_lines::input::next_line` meets its contract. The invariant: some bytes of the line are taken.
use mathlib.Core.Path.{◌≡◌}
use Prim.Native.Nat.{◌-◌}
use lib.ListN.{length}
use Rattle.rig_lines.specs.Numbers.{largest}
use Rattle.rig_lines.proofs.Taking.{Taking}
use Rattle.rig_lines.proofs.input.next_line.Given as goal

abbrev pub invariant-loop : goal.invariant-loop
invariant-loop g l = (length l.piece ≡ length l.initial.piece) × (length l.line ≡ length l.initial.line)
    × Taking l.initial.piece l.initial.line l.initial.from l.piece l.line l.from l.n (largest - l.counter)
