-- The different messages of a night in their order, and the round that each message is carried in.
use Rattle.std.specs.Prelude.{ℕ, suc, ◌+◌, Bool, cond, not, List, [], ◌∷◌}
use Rattle.arbitration_rules.specs.Outcome.{at_most}

-- A message is smaller than another in the order of messages (arbitration_rules' Outcome.antt).
abbrev pub smaller : List ℕ → List ℕ → Bool
smaller message other = not (at_most other message)

-- A message put in its order among different ones; not again where it stands already.
abbrev pub placed : List ℕ → List (List ℕ) → List (List ℕ)
placed message [] = message ∷ []
placed message (other ∷ others) =
    cond (smaller message other) (message ∷ other ∷ others)
    (cond (smaller other message) (other ∷ placed message others) (other ∷ others))

-- The different messages, from the least to the largest.
abbrev pub different : List (List ℕ) → List (List ℕ)
different [] = []
different (message ∷ messages) = placed message (different messages)

-- How many of some messages are smaller than one.
abbrev pub smaller_count : List ℕ → List (List ℕ) → ℕ
smaller_count message [] = 0
smaller_count message (other ∷ others) = cond (smaller other message) 1 0 + smaller_count message others

-- "Each round carries the next larger of the different plans, from the least to the largest": the round of a message.
abbrev pub round_of : List (List ℕ) → List ℕ → ℕ
round_of messages message = suc (smaller_count message (different messages))
