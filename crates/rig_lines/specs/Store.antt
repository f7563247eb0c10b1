-- Values kept one after another in a lent slice.
use Rattle.std.specs.Prelude.{◌≡◌, cond, List, ℕ, ◌+◌, ltb, length, set}

-- `new` is the slice `old` with a value stored at a position, if it lies within, and `next` the position after it
pub record Kept {A : Type 0} (old : List A) (at : ℕ) (value : A) (new : List A) (next : ℕ) : Type 0 where
  pub stored : new ≡ set old at value
  pub moved : next ≡ cond (ltb at (length old)) (at + 1) at
