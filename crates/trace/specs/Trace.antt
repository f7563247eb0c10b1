-- A trace (01: a record) is stamps and levels, one each per sample: what makes it one, and the refusals of any other.
use Rattle.std.specs.Prelude.{ℕ, suc, ◌<◌, Bool, cond, not, List, [], ◌∷◌, eqb, ltb, length, get_or, Option, Some, None}
use Rattle.laws.specs.Search.{first, any}
use Rattle.laws.specs.Refusals.{Check, check, check_at}
use Rattle.levels.specs.Levels.{max_level}
use Rattle.trace.specs.Limits.{max_samples}

-- 4: a level byte above 3; its place is the first such
abbrev pub bad_level : ℕ → Bool
bad_level level = ltb max_level level

-- each sample's stamp with the next one's
abbrev pub pairs : List ℕ → List (ℕ × ℕ)
pairs [] = []
pairs (stamp ∷ []) = []
pairs (stamp ∷ next ∷ stamps) = (stamp, next) ∷ pairs (next ∷ stamps)

-- 7: a stamp not above the one before; its place is the later sample's
abbrev pub not_above : ℕ × ℕ → Bool
not_above pair = not (ltb pair.0 pair.1)

abbrev pub bad_stamp : List ℕ → ℕ
bad_stamp stamps = suc (first not_above (pairs stamps))

-- where a search of a list ended, if that is one of its places
abbrev pub place_in : List ℕ → ℕ → Option ℕ
place_in list place = cond (ltb place (length list)) (Some place) None

-- 5, 6, 4 and 7, in that order
abbrev pub trace_checks : List ℕ → List ℕ → List Check
trace_checks stamps levels =
    check 5 (not (eqb (length stamps) (length levels)))
    ∷ check 6 (ltb max_samples (length levels))
    ∷ check_at 4 (any bad_level levels) (first bad_level levels)
    ∷ check_at 7 (any not_above (pairs stamps)) (bad_stamp stamps)
    ∷ []

-- the stamps rise at every sample: each is above the one before
pub record Rising (stamps : List ℕ) : Type 0 where
  pub above : (i : ℕ) → suc i < length stamps → get_or stamps i 0 < get_or stamps (suc i) 0
