-- Two lists of bytes, or of any numbers, compared one by one.
use Rattle.std.specs.Prelude.{ℕ, Bool, true, false, ◌&&◌, List, [], ◌∷◌, eqb}

-- whether they are the same
unfoldable pub same : List ℕ → List ℕ → Bool
same [] [] = true
same [] (b ∷ other) = false
same (a ∷ list) [] = false
same (a ∷ list) (b ∷ other) = eqb a b && same list other
