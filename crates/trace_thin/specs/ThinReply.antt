-- What thin answers, and what the lent slices hold after it.
use Rattle.std.specs.Prelude.{ℕ, not, ◌||◌, List, [], ◌∷◌, ◌++◌, eqb, ltb, length, Result, Ok, Err}
use Rattle.laws.specs.Buffer.{filled}
use Rattle.laws.specs.Search.{first, any}
use Rattle.laws.specs.declared.Refusal.{Refusal}
use Rattle.laws.specs.Refusals.{Check, check, check_at, answer}
use Rattle.trace.specs.Limits.{max_samples}
use Rattle.trace.specs.Samples.{samples}
use Rattle.trace.specs.Changes.{thinned, changed_stamps, changed_levels}
use Rattle.trace.specs.Trace.{bad_level, pairs, not_above, bad_stamp}

-- 5, 4 and 7 as decode gives them, of a capture of any length
abbrev pub capture_checks : List ℕ → List ℕ → List Check
capture_checks stamps levels =
    check 5 (not (eqb (length stamps) (length levels)))
    ∷ check_at 4 (any bad_level levels) (first bad_level levels)
    ∷ check_at 7 (any not_above (pairs stamps)) (bad_stamp stamps)
    ∷ []

-- how many samples are left
abbrev pub count_left : List ℕ → List ℕ → ℕ
count_left stamps levels = length (thinned (samples stamps levels))

-- 6 where more than 4,096 samples are left; 8 where a slice is shorter than they are many
abbrev pub left_checks : ℕ → ℕ → ℕ → List Check
left_checks count stamp_room level_room =
    check 6 (ltb max_samples count) ∷ check 8 (ltb stamp_room count || ltb level_room count) ∷ []

-- 5, 4, 7, 6 and 8, in that order
abbrev pub thin_checks : List ℕ → List ℕ → ℕ → ℕ → List Check
thin_checks stamps levels stamp_room level_room =
    capture_checks stamps levels ++ left_checks (count_left stamps levels) stamp_room level_room

-- the first of them that applies, else how many samples are left
unfoldable pub thin_answer : List ℕ → List ℕ → ℕ → ℕ → Result ℕ Refusal
thin_answer stamps levels stamp_room level_room =
    answer (thin_checks stamps levels stamp_room level_room) (count_left stamps levels)

-- the numbers of an answer: the refusal (0: none), its place, the count of samples left; the others 0
pub record ThinNumbers : Type 0 where
  pub refusal : ℕ
  pub place : ℕ
  pub count : ℕ

abbrev pub thin_numbers : Result ℕ Refusal → ThinNumbers
thin_numbers (Ok count) = record { refusal = 0; place = 0; count = count }
thin_numbers (Err refusal) = record { refusal = refusal.number; place = refusal.place; count = 0 }

-- the samples left, and the rest of each slice as it was; after a refusal all as it was
abbrev pub stamps_after : Result ℕ Refusal → List ℕ → List ℕ → List ℕ → List ℕ
stamps_after (Ok count) stamps levels buffer = filled (changed_stamps stamps levels) buffer
stamps_after (Err refusal) stamps levels buffer = buffer

abbrev pub levels_after : Result ℕ Refusal → List ℕ → List ℕ → List ℕ → List ℕ
levels_after (Ok count) stamps levels buffer = filled (changed_levels stamps levels) buffer
levels_after (Err refusal) stamps levels buffer = buffer
