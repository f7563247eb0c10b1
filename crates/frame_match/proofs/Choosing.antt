-- The rules, each where those before it do not apply.
use Prim.Native.Nat.{ℕ, ◌+◌, ◌≤◌, ◌<◌}
use mathlib.Core.Path.{◌≡◌}
use mathlib.Core.Bool.{true, false}
use mathlib.Core.List.{List}
use lib.Dec.{ltb}
use borrow.Author.Tests.{lt-ltb, le-ltb}
use Rattle.laws.specs.Search.{any}
use Rattle.frame_match.specs.declared.Found.TheVariants.{Waiting, Rehearsed, Different, Other}
use Rattle.frame_match.specs.Book.{is_load, is_message, is_rehearsed_as}
use Rattle.frame_match.specs.Rows.{between, first_row, boards_end}
use Rattle.frame_match.specs.Frames.{frame_of, later_than}
use Rattle.frame_match.specs.Rules.{waiting_row, rehearsed_row, is_passed, comes, unlike, ahead, found}
use Rattle.frame_match.proofs.Searching.{row-since, row_any}

-- the boards of a load stand after it
pub boards-after : (book : List ℕ) (rows load : ℕ) → load < rows → load + 1 ≤ boards_end book rows load
unfolding boards_end
boards-after book rows load less = rw (lt-ltb load rows less) (row-since (is_load book) (load + 1) rows)

module _ (book : List ℕ) (rows : ℕ) (events : List ℕ) (frames : List (List ℕ)) (next : ℕ) where
  -- 6
  pub found_none : rows ≤ waiting_row book rows events (frame_of frames) → rows ≤ next → Other ≡ found book rows events frames next
  unfolding found ahead unlike
  found_none waits none = rw (le-ltb _ _ waits, le-ltb _ _ none)

  -- 1
  pub found-waiting : (row : ℕ) → row ≡ waiting_row book rows events (frame_of frames) → row < rows
      → Waiting row ≡ found book rows events frames next
  unfolding found
  found-waiting row is less = rw (← is) (rw (lt-ltb row rows less))

  module _ (less : next < rows) where
    -- 2
    pub found-next : rows ≤ waiting_row book rows events (frame_of frames)
        → is_rehearsed_as book events (frame_of frames) next ≡ true → Rehearsed next ≡ found book rows events frames next
    unfolding found
    found-next waits is = rw (le-ltb _ _ waits, lt-ltb _ _ less, is)

    pub found-ahead : rows ≤ waiting_row book rows events (frame_of frames)
        → is_rehearsed_as book events (frame_of frames) next ≡ false
        → ahead book rows events frames next ≡ found book rows events frames next
    unfolding found
    found-ahead waits is = rw (le-ltb _ _ waits, lt-ltb _ _ less, is)

    -- 3
    pub ahead-later : (load : ℕ) → load ≡ rehearsed_row book rows events (frame_of frames) (next + 1) → load < rows
        → is_passed book events (later_than frames) next load ≡ true → Rehearsed load ≡ ahead book rows events frames next
    unfolding ahead
    ahead-later load is within passed = rw (← is) (rw (lt-ltb _ _ less, lt-ltb _ _ within, passed))

    pub ahead-kept : (load : ℕ) → load ≡ rehearsed_row book rows events (frame_of frames) (next + 1) → load < rows
        → is_passed book events (later_than frames) next load ≡ false
        → unlike book rows events frames next ≡ ahead book rows events frames next
    unfolding ahead
    ahead-kept load is within kept = rw (← is) (rw (lt-ltb _ _ less, lt-ltb _ _ within, kept))

    pub ahead_none : (load : ℕ) → load ≡ rehearsed_row book rows events (frame_of frames) (next + 1) → rows ≤ load
        → unlike book rows events frames next ≡ ahead book rows events frames next
    unfolding ahead
    ahead_none load is none = rw (← is) (rw (lt-ltb _ _ less, le-ltb _ _ none))

    -- 4 and 5
    any-message : (row : ℕ) → row ≡ first_row (is_message book events (frame_of frames)) (next + 1) (boards_end book rows next)
        → ltb row (boards_end book rows next)
        ≡ any (is_message book events (frame_of frames)) (between (next + 1) (boards_end book rows next))
    any-message row is =
        rw is (row_any (is_message book events (frame_of frames)) (next + 1) (boards_end book rows next) (boards-after book rows next less))

    module _ (row : ℕ) (is : row ≡ first_row (is_message book events (frame_of frames)) (next + 1) (boards_end book rows next)) where
      pub unlike-message : row < boards_end book rows next → Different ≡ unlike book rows events frames next
      unfolding unlike
      unlike-message within = rw (lt-ltb _ _ less, ← any-message row is, lt-ltb _ _ within)

      pub unlike-before : boards_end book rows next ≤ row → comes book rows events next (later_than frames) ≡ true
          → Other ≡ unlike book rows events frames next
      unfolding unlike
      unlike-before none later = rw (lt-ltb _ _ less, ← any-message row is, le-ltb _ _ none, later)

      pub unlike-differs : boards_end book rows next ≤ row → comes book rows events next (later_than frames) ≡ false
          → Different ≡ unlike book rows events frames next
      unfolding unlike
      unlike-differs none later = rw (lt-ltb _ _ less, ← any-message row is, le-ltb _ _ none, later)
