-- A column of the rows holds what each message sends at an index.
use Prim.Native.Nat.{ℕ, zero, suc, ◌-◌, ◌<◌}
use mathlib.Core.Path.{◌≡◌, refl, ap, ap₂, ◌∙◌}
use mathlib.Core.List.{List, [], ◌∷◌, ◌++◌, map}
use native.Mathlib.Omega.{arith}
use lib.ListN.{length, get_or, take, replicate, length-append, length-map, length-take, length-replicate}
use lib.Seq.{get_or-take}
use Rattle.laws.proofs.Lists.{map-map, map-alike, everyone}
use Rattle.arbitration_rules.specs.Limits.{max_masters, max_length}
use Rattle.arbitration_rules.specs.Outcome.{byte_of, sent_at, byte_at}
use Rattle.arbitration_members.specs.Rows.{empty_row, row_of, rows_of, column_of}

-- something of each message, and a blank for a master without one
abbrev pub column : (List ℕ → ℕ) → ℕ → List (List ℕ) → List ℕ
column of blank messages = map of (take max_masters messages) ++ replicate (max_masters - length messages) blank

padded : (list : List ℕ) (count i : ℕ) → get_or (list ++ replicate count 256) i 256 ≡ get_or list i 256
padded [] zero i = refl
padded [] (suc count) zero = refl
padded [] (suc count) (suc i) = padded [] count i
padded (value ∷ list) count zero = refl
padded (value ∷ list) count (suc i) = padded list count i

both : {A : Type 0} (f : A → ℕ) (list more : List A) → map f (list ++ more) ≡ map f list ++ map f more
both f [] more = refl
both f (row ∷ list) more = ap (λ (rest : List ℕ). f row ∷ rest) (both f list more)

all-blank : {A : Type 0} (f : A → ℕ) (a : A) (blank : ℕ) → f a ≡ blank → (count : ℕ)
    → map f (replicate count a) ≡ replicate count blank
all-blank f a blank is zero = refl
all-blank f a blank is (suc count) =
    ap₂ (λ (value : ℕ) (more : List ℕ). value ∷ more) is (all-blank f a blank is count)

module _ (index : ℕ) (messages : List (List ℕ)) where
  of_row : index < max_length → (message : List ℕ) → sent_at index (row_of message) ≡ sent_at index message
  of_row early message =
      padded (take max_length message) (max_length - length message) index
      ∙ get_or-take max_length message index 256 early

  pub of-rows : index < max_length → column_of (rows_of messages) index ≡ column (sent_at index) 256 messages
  unfolding rows_of
  of-rows early =
      both (sent_at index) (map row_of (take max_masters messages)) (replicate (max_masters - length messages) empty_row)
      ∙ ap₂ (λ (first rest : List ℕ). first ++ rest)
      (map-map (sent_at index) row_of (take max_masters messages)
      ∙ map-alike (everyone (of_row early) (take max_masters messages)))
      (all-blank (sent_at index) empty_row 256 (padded [] max_length index) (max_masters - length messages))

  -- and the bytes of that
  pub bytes-of-rows : index < max_length
      → map byte_of (column_of (rows_of messages) index) ≡ column (byte_at index) 0 messages
  bytes-of-rows early =
      ap (map byte_of) (of-rows early)
      ∙ both byte_of (map (sent_at index) (take max_masters messages)) (replicate (max_masters - length messages) 256)
      ∙ ap₂ (λ (first rest : List ℕ). first ++ rest) (map-map byte_of (sent_at index) (take max_masters messages))
      (all-blank byte_of 256 0 refl (max_masters - length messages))

  -- one for each of the most masters
  pub column-size : length (map byte_of (column_of (rows_of messages) index)) ≡ max_masters
  unfolding rows_of
  column-size =
      let rows = map row_of (take max_masters messages) ++ replicate (max_masters - length messages) empty_row in
      omega (
        arith,
        length-map (column_of rows index) byte_of,
        length-map rows (sent_at index),
        length-append (map row_of (take max_masters messages)) (replicate (max_masters - length messages) empty_row),
        length-map (take max_masters messages) row_of,
        length-take max_masters messages,
        length-replicate {A = List ℕ} (max_masters - length messages) empty_row,
      )
