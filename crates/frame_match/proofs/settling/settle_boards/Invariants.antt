-- The boards passed have been settled.
use Prim.Native.Nat.{◌≤◌}
use mathlib.Core.Path.{◌≡◌}
use lib.ListN.{length}
use Rattle.frame_match.specs.Rows.{between}
use Rattle.frame_match.specs.Settled.{boards_after}
use Rattle.frame_match.proofs.settling.settle_boards.Given as goal

abbrev pub invariant-loop-row : goal.invariant-loop-row
invariant-loop-row l = (l.from ≤ l.row) × (length l.book ≡ length l.initial.book)
    × (boards_after l.events l.frame l.found l.number l.initial.book (between l.from l.end)
    ≡ boards_after l.events l.frame l.found l.number l.book (between l.row l.end))
