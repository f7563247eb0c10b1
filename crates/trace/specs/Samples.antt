-- A trace as one list of samples: each is a stamp and a level.
use Rattle.std.specs.Prelude.{ℕ, List, [], ◌∷◌, map}

-- each stamp with its level, as many as there are of both
abbrev pub samples : List ℕ → List ℕ → List (ℕ × ℕ)
samples [] levels = []
samples (stamp ∷ stamps) [] = []
samples (stamp ∷ stamps) (level ∷ levels) = (stamp, level) ∷ samples stamps levels

-- the stamps of samples, and their levels
abbrev pub stamps_of : List (ℕ × ℕ) → List ℕ
stamps_of list = map (λ sample. sample.0) list

abbrev pub levels_of : List (ℕ × ℕ) → List ℕ
levels_of list = map (λ sample. sample.1) list
