-- A value stored at a position of a slice, where there is room and where there is none.
use mathlib.Core.Path.{refl, sym}
use mathlib.Core.List.{List}
use Prim.Native.Nat.{ℕ, ◌+◌, ◌≤◌, ◌<◌}
use lib.ListN.{length, set}
use lib.Seq.{set_out}
use borrow.Author.Tests.{lt-ltb, le-ltb}
use Rattle.rig_lines.specs.Store.{Kept}

module _ {A : Type 0} (old : List A) (at : ℕ) (value : A) where
  pub kept-within : at < length old → Kept old at value (set old at value) (at + 1)
  kept-within h = record { stored = refl; moved = rw (lt-ltb at (length old) h) }

  pub kept-past : length old ≤ at → Kept old at value old at
  kept-past h = record { stored = sym (set_out old at value h); moved = rw (le-ltb at (length old) h) }
