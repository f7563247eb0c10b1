-- What stands before each byte as it is gathered, for contracts inside the crate.
use Rattle.std.specs.Prelude.{ℕ, ◌+◌, ◌*◌, length, take, drop, set}
use mathlib.Core.List.{List, [], ◌∷◌, ◌++◌, zip_with}
use Rattle.arbitration_rules.specs.Limits.{max_masters, max_length}

-- the most bytes that all messages together have
abbrev pub max_sent : ℕ
max_sent = max_masters * max_length

-- marks with no restart at the first of each of these lengths
abbrev pub started : List ℕ → List ℕ → List ℕ
started [] marks = marks
started (length ∷ lengths) marks =
    take length (set marks 0 256) ++ started lengths (drop length (set marks 0 256))

-- bytes added to the first marks
abbrev pub joined_of : List ℕ → List ℕ → List ℕ
joined_of bytes marks = zip_with ◌+◌ bytes (take (length bytes) marks) ++ drop (length bytes) marks
