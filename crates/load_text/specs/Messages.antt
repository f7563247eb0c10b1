-- What is handed to the library of the boards that are not silent, in the order of their numbers.
use Rattle.std.specs.Prelude.{Bool, true, false, cond, List, [], ◌∷◌, map, ℕ, zero, suc, length, take, drop, replicate}
use Rattle.arbitration_rules.specs.Limits.{max_masters, max_length}

-- what belongs to the boards that are not silent
abbrev pub chosen : {A : Type 0} → List Bool → List A → List A
chosen [] all = []
chosen (one ∷ others) [] = []
chosen (true ∷ others) (a ∷ all) = chosen others all
chosen (false ∷ others) (a ∷ all) = a ∷ chosen others all

-- each board's message, of its length, stands at the front of its row of bytes
abbrev pub messages_in : List ℕ → List ℕ → List (List ℕ)
messages_in rows [] = []
messages_in rows (count ∷ counts) = take count rows ∷ messages_in (drop max_length rows) counts

-- nothing, of a board that is silent
abbrev pub unless : {A : Type 0} → Bool → List A → List A
unless silent said = cond silent [] said

-- The parts of a message: in a row like that of its bytes the length of each part stands where the part begins, and 0
-- at every other byte.
abbrev pub part_lengths : List ℕ → List ℕ
part_lengths [] = []
part_lengths (zero ∷ starts) = part_lengths starts
part_lengths (suc more ∷ starts) = suc more ∷ part_lengths starts

-- each board's row, and its parts
unfoldable pub rows_in : List ℕ → List (List ℕ)
rows_in rows = messages_in rows (replicate max_masters max_length)

abbrev pub parts_in : List ℕ → List (List ℕ)
parts_in rows = map part_lengths (rows_in rows)

-- how many each board has
abbrev pub part_counts : List ℕ → List ℕ
part_counts rows = map length (parts_in rows)
