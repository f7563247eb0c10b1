-- Whole phases of SCL, and the first sample that ends one shorter than the mode allows.
use Rattle.std.specs.Prelude.{ℕ, suc, ◌-◌, Bool, true, false, cond, not, ◌&&◌, List, [], ◌∷◌, ltb}
use Rattle.std.specs.Bool.{beq}
use Rattle.levels.specs.Levels.{scl}
use Rattle.phases.specs.declared.Mode.{Mode}
use Rattle.phases.specs.declared.Mode.TheVariants.{Unchecked, Standard, Fast}
use Rattle.phases.specs.declared.phase.Limits.{Limits}
use Rattle.phases.specs.declared.phase.Phase.{Phase}

-- the least low and high period of SCL by UM10204, in units of 100 ns: 4.7 and 4.0 µs, 1.3 and 0.6 µs
abbrev pub least : Mode → Limits
least Unchecked = record { low = 0; high = 0 }
least Standard = record { low = 47; high = 40 }
least Fast = record { low = 13; high = 6 }

-- of a phase, by SCL in it
abbrev pub least_of : Limits → Bool → ℕ
least_of limits high = cond high limits.high limits.low

-- the first sample's phase: the trace does not hold the sample that began it
abbrev pub cut_off : ℕ → Phase
cut_off level = record { scl = scl level; whole = false; began = 0 }

-- a sample with the other level of SCL ends the phase
abbrev pub goes_on : Phase → ℕ → Bool
goes_on phase level = beq (scl level) phase.scl

-- and begins the next one
unfoldable pub next : Phase → ℕ → ℕ → Phase
next phase stamp level =
    cond (goes_on phase level) phase (record { scl = scl level; whole = true; began = stamp })

-- a sample ends a whole phase whose length, from the sample that began it to this one, is less than the least
unfoldable pub ends_short : Limits → Phase → ℕ → ℕ → Bool
ends_short limits phase stamp level =
    not (goes_on phase level) && phase.whole && ltb (stamp - phase.began) (least_of limits phase.scl)

-- the first of these samples that does, counted from 0, or how many there are
abbrev pub short_from : Limits → Phase → List ℕ → List ℕ → ℕ
short_from limits phase [] levels = 0
short_from limits phase (stamp ∷ stamps) [] = 0
short_from limits phase (stamp ∷ stamps) (level ∷ levels) =
    cond (ends_short limits phase stamp level) 0 (suc (short_from limits (next phase stamp level) stamps levels))

-- the same for a whole trace: its first sample ends no phase
abbrev pub first_under : Limits → List ℕ → List ℕ → ℕ
first_under limits [] levels = 0
first_under limits (stamp ∷ stamps) [] = 0
first_under limits (stamp ∷ stamps) (level ∷ levels) = suc (short_from limits (cut_off level) stamps levels)

abbrev pub first_short : Mode → List ℕ → List ℕ → ℕ
first_short mode stamps levels = first_under (least mode) stamps levels
