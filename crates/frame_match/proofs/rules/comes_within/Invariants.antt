-- No frame passed is that of the row.
use Prim.Native.Nat.{ℕ, ◌-◌}
use mathlib.Core.Path.{◌≡◌}
use mathlib.Core.List.{List}
use lib.ListN.{take, drop}
use Rattle.laws.specs.Search.{any}
use Rattle.frame_match.specs.Book.{is_of}
use Rattle.frame_match.specs.Frames.{cut}
use Rattle.frame_match.proofs.rules.comes_within.Given as goal

abbrev pub invariant-loop : goal.invariant-loop
invariant-loop l = any (λ (frame : List ℕ). is_of l.book l.events frame l.row) (take l.count (cut (drop l.from l.seen)))
    ≡ any (λ (frame : List ℕ). is_of l.book l.events frame l.row) (take (l.count - l.counter) (cut (drop l.at l.seen)))
