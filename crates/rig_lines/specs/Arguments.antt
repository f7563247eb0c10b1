-- A word of the command line in a buffer. Which words there are the logic does not know.
use Rattle.std.specs.Prelude.{List, ℕ, Result, Ok, Err}
use Rattle.io.specs.Counts.{IsPrefixLen}

-- the word that was found lies within the buffer
abbrev pub Within : {E : Type 0} → Result ℕ E → List ℕ → Type 0
Within (Ok n) space = IsPrefixLen n space
Within (Err why) space = Unit {0}
