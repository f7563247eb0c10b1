-- Words in the list `a`, `bc`: those at a place, and the place of one.
use mathlib.Core.Path.{◌≡◌, refl}
use mathlib.Core.List.{List, [], ◌∷◌}
use Prim.Native.Nat.{ℕ}
use Rattle.laws.specs.Same.{same}
use Rattle.text.specs.Words.{run_length}
use Rattle.rig_lines.specs.Lists.{after_lines, line_at, place_of}

-- `a`, a newline, `bc`
abbrev two : List ℕ
two = 97 ∷ 10 ∷ 98 ∷ 99 ∷ []

pub first-words : line_at 0 two ≡ 97 ∷ []
unfolding after_lines run_length
first-words = refl

pub second-words : line_at 1 two ≡ 98 ∷ 99 ∷ []
unfolding after_lines run_length
second-words = refl

pub past_the_end : line_at 2 two ≡ []
unfolding after_lines run_length
past_the_end = refl

pub second-place : place_of 16 two (98 ∷ 99 ∷ []) ≡ 1
unfolding place_of same run_length
second-place = refl

-- a word that begins another is not in the list
pub no-such-word : place_of 16 two (98 ∷ []) ≡ 16
unfolding place_of same run_length
no-such-word = refl
