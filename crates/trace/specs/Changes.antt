-- A trace without the samples that change nothing: what thin leaves of a capture (ours), and what a dump holds.
use Rattle.std.specs.Prelude.{ℕ, cond, List, [], ◌∷◌, ◌++◌, eqb}
use Rattle.trace.specs.Samples.{samples, stamps_of, levels_of}

-- a sample is kept where its level differs from the one before
abbrev pub kept : ℕ → ℕ × ℕ → List (ℕ × ℕ)
kept last sample = cond (eqb sample.1 last) [] (sample ∷ [])

-- of the samples after one of a level, those that are kept
abbrev pub changes_from : ℕ → List (ℕ × ℕ) → List (ℕ × ℕ)
changes_from last [] = []
changes_from last (sample ∷ list) = kept last sample ++ changes_from sample.1 list

-- the first sample, and each whose level differs from the sample before it
abbrev pub thinned : List (ℕ × ℕ) → List (ℕ × ℕ)
thinned [] = []
thinned (sample ∷ list) = sample ∷ changes_from sample.1 list

-- their stamps, and their levels
abbrev pub changed_stamps : List ℕ → List ℕ → List ℕ
changed_stamps stamps levels = stamps_of (thinned (samples stamps levels))

abbrev pub changed_levels : List ℕ → List ℕ → List ℕ
changed_levels stamps levels = levels_of (thinned (samples stamps levels))
