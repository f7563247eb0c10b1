-- `rig_lines::input::fill` meets its contract. The invariant: the first n bytes of the piece are read.
use Rattle.std.proofs.Common.{◌≡◌, ◌-◌, ◌≤◌, length}
use Rattle.rig_lines.specs.Input.{Read}
use Rattle.rig_lines.proofs.input.fill.Given as goal

abbrev pub invariant-loop-n : goal.invariant-loop-n
invariant-loop-n g l = (l.n ≤ length l.initial.piece) × (length l.piece ≡ length l.initial.piece)
    × Read l.initial.piece l.piece l.n

abbrev pub decreases-loop-n : goal.decreases-loop-n
decreases-loop-n g l = length l.initial.piece - l.n
