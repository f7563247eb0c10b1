-- A source followed line by line.
use Rattle.std.specs.Prelude.{List, ℕ, ◌+◌, Option, Some}
use Rattle.rig_lines.specs.Input.{Took}
use Rattle.rig_lines.specs.declared.input.Source.{Source}
use Rattle.rig_lines.specs.declared.input.Taken.{Taken}

-- So many lines are followed from a state on: each is taken from where the state before it says, and the state after it
-- is what following that line answers.
pub data Followed {S F : Type 0} (says : S → Option Source → Type 0)
    (step : F → S → Taken → List ℕ → S → F → Type 0) (begun : S) (piece line : List ℕ) (after : F)
    : S → List ℕ → List ℕ → F → ℕ → Type 0 where
  nothing : Followed says step begun piece line after begun piece line after 0
  one : {s s' : S} {p l p' l' : List ℕ} {f f' : F} {n : ℕ} {taken : Taken} (from : Source)
      → Followed says step begun piece line after s p l f n → says s (Some from) → Took p l from p' l' taken
      → step f s taken l' s' f' → Followed says step begun piece line after s' p' l' f' (n + 1)
