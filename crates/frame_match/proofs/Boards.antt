-- The boards of a load settled one after another.
use Prim.Native.Nat.{ℕ, ◌+◌, ◌≤◌, ◌<◌}
use mathlib.Core.Path.{◌≡◌}
use mathlib.Core.List.{List}
use Rattle.frame_match.specs.declared.Found.{Found}
use Rattle.frame_match.specs.Rows.{between}
use Rattle.frame_match.specs.Settled.{board_after, boards_after}
use Rattle.frame_match.proofs.Searching.{rows-cons, rows_none}

module _ (events frame : List ℕ) (found : Found) (number : ℕ) (book : List ℕ) (row end : ℕ) where
  pub boards-more : (next : List ℕ) → next ≡ board_after events frame found number book row → row < end
      → boards_after events frame found number book (between row end)
      ≡ boards_after events frame found number next (between (row + 1) end)
  boards-more next is less = rw (rows-cons row end less, is)

  pub boards-done : end ≤ row → book ≡ boards_after events frame found number book (between row end)
  boards-done past = rw (rows_none row end past)
