-- A text of which the first bytes are left out, put into a lent slice chunk by chunk.
use Rattle.std.specs.Prelude.{◌≡◌, List, ℕ, ◌-◌, length, drop}
use Rattle.text.specs.Output.{Put}
use Rattle.dump.specs.declared.writer.Point.{Point}

-- `new` is the slice `old` with a chunk put at point `from`, but for the bytes that are still left out there; then the
-- writer is at `to`
pub record PutPast (old : List ℕ) (from : Point) (chunk : List ℕ) (new : List ℕ) (to : Point) : Type 0 where
  pub put : Put old from.at (drop from.skip chunk) new to.at
  pub left : to.skip ≡ from.skip - length chunk

-- before the text: so many bytes of it are left out, and the next goes to the slice's start
abbrev pub begun : ℕ → Point
begun from = record { skip = from; at = 0 }
