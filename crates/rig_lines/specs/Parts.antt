-- How much of a slice is lent.
use Rattle.std.specs.Prelude.{◌≡◌, List, ℕ, ◌≤◌, length, take}

-- so many elements stand at the start of a slice
abbrev pub Lent : {A : Type 0} → ℕ → List A → Type 0
Lent n slice = (n ≤ length slice) × (n ≡ length (take n slice))
