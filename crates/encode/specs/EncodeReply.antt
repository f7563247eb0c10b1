-- What encode answers, refusals in 01's order, and what the two lent slices hold after it.
use Rattle.std.specs.Prelude.{ℕ, not, ◌||◌, List, [], ◌∷◌, eqb, ltb, Result, Ok, Err}
use Rattle.trace.specs.Limits.{max_samples, max_gap, largest_stamp}
use Rattle.laws.specs.Buffer.{filled}
use Rattle.laws.specs.declared.Refusal.{Refusal}
use Rattle.laws.specs.Refusals.{Check, check, answer}
use Rattle.encode.specs.Complete.{complete}
use Rattle.encode.specs.Encode.{drawing, sample_count, stamps_from, last_stamp}

-- 9, 10, 6, 11 and 8, in that order
abbrev pub encode_checks : List ℕ → ℕ → ℕ → ℕ → ℕ → List Check
encode_checks events start gap stamp_room level_room =
    check 9 (not (complete events))
    ∷ check 10 (eqb gap 0 || ltb max_gap gap)
    ∷ check 6 (ltb max_samples (sample_count events))
    ∷ check 11 (ltb largest_stamp (last_stamp start gap (sample_count events)))
    ∷ check 8 (ltb stamp_room (sample_count events) || ltb level_room (sample_count events))
    ∷ []

-- the first of them that applies, else the sample count
unfoldable pub encoded : List ℕ → ℕ → ℕ → ℕ → ℕ → Result ℕ Refusal
encoded events start gap stamp_room level_room =
    answer (encode_checks events start gap stamp_room level_room) (sample_count events)

-- 01's numbers of an answer: the refusal (0: none) and the sample count, 0 in a refused one
pub record EncodedNumbers : Type 0 where
  pub refusal : ℕ
  pub count : ℕ

abbrev pub encoded_numbers : Result ℕ Refusal → EncodedNumbers
encoded_numbers (Ok count) = record { refusal = 0; count = count }
encoded_numbers (Err refusal) = record { refusal = refusal.number; count = 0 }

-- the lent slices after it: stamps and drawing, and their rest as it was; after a refusal all as it was
abbrev pub stamps_after : Result ℕ Refusal → ℕ → ℕ → List ℕ → List ℕ
stamps_after (Ok count) start gap buffer = filled (stamps_from start gap count) buffer
stamps_after (Err refusal) start gap buffer = buffer

abbrev pub levels_after : Result ℕ Refusal → List ℕ → List ℕ → List ℕ
levels_after (Ok count) events buffer = filled (drawing events) buffer
levels_after (Err refusal) events buffer = buffer
