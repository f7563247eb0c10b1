-- The lists that wait, put together one after the other: what holds at the loop's head.
use Prim.Native.Nat.{ℕ, zero, suc, ◌+◌, ◌<◌, ◌≤◌, min}
use native.Mathlib.Omega.{arith}
use native.Mathlib.Numerals.{add-one, unary_clauses}
use mathlib.Core.Path.{◌≡◌, refl, ap, ap₂, ◌∙◌}
use mathlib.Core.List.{List, [], ◌∷◌, ◌++◌}
use lib.ListN.{length, get_or, take, drop, length-append, length-take, length-drop, drop_of_length-le}
use lib.Seq.{sets, drop-cons, take-append_seam}
use Rattle.laws.proofs.Buffer.{Writing, writing-room, writing_more, writing-done}
use Rattle.laws.proofs.Buffer.{progress-done}
use Rattle.laws.proofs.Buffer.{length-filled}
use Rattle.night.specs.Waiting.{waiting_in, joined_waiting, Holds}

module _ {A : Type 0} where
  -- they are no more than there were
  pub waiting-within : (rounds lengths : List ℕ) (list : List A) → length (joined_waiting rounds lengths list) ≤ length list
  waiting-within [] lengths list = omega arith
  waiting-within (round ∷ rounds) [] list = omega arith
  waiting-within (zero ∷ rounds) (count ∷ lengths) list =
      omega (
        arith,
        length-append (take count list) (joined_waiting rounds lengths (drop count list)),
        length-take count list,
        length-drop count list,
        waiting-within rounds lengths (drop count list),
      )
  waiting-within (suc round ∷ rounds) (count ∷ lengths) list =
      omega (arith, length-drop count list, waiting-within rounds lengths (drop count list))

  none-waits : (rounds : List ℕ) (list : List A) → joined_waiting rounds [] list ≡ []
  none-waits [] list = refl
  none-waits (round ∷ rounds) list = refl

  one-waits : (round count : ℕ) (rounds lengths : List ℕ) (rest : List A) → round ≡ 0
      → joined_waiting (round ∷ rounds) (count ∷ lengths) rest ≡ take count rest ++ joined_waiting rounds lengths (drop count rest)
  one-waits zero count rounds lengths rest is = refl
  one-waits (suc round) count rounds lengths rest is = absurd (omega (arith, is))

  one-passed : (round count : ℕ) (rounds lengths : List ℕ) (rest : List A) → (round ≡ 0 → ⊥)
      → joined_waiting (round ∷ rounds) (count ∷ lengths) rest ≡ joined_waiting rounds lengths (drop count rest)
  one-passed zero count rounds lengths rest not = absurd (not refl)
  one-passed (suc round) count rounds lengths rest not = refl

  -- a count past the end takes all
  take-min : (count : ℕ) (rest : List A) → take (min (length rest) count) rest ≡ take count rest
  take-min zero [] = refl
  take-min zero (a ∷ rest) = simp unary_clauses refl
  take-min (suc count) [] = simp unary_clauses refl
  take-min (suc count) (a ∷ rest) = simp unary_clauses (ap (λ (l : List A). a ∷ l) (take-min count rest))

  drop-min : (count : ℕ) (rest : List A) → drop (min (length rest) count) rest ≡ drop count rest
  drop-min zero [] = refl
  drop-min zero (a ∷ rest) = simp unary_clauses refl
  drop-min (suc count) [] = simp unary_clauses refl
  drop-min (suc count) (a ∷ rest) = simp unary_clauses (drop-min count rest)

  -- the first i lists are passed, and those of them that wait are put down
  abbrev pub Gathering : List ℕ → List ℕ → List A → List A → List A → ℕ → List A → ℕ → Type 0
  Gathering rounds lengths list entry out i rest size =
      Writing (joined_waiting rounds lengths list) (joined_waiting (drop i rounds) (drop i lengths) rest) entry out size

  module _ (rounds lengths : List ℕ) (list entry : List A) (enough : length list ≤ length entry) where
    room_for : length (joined_waiting rounds lengths list) ≤ length entry
    room_for = omega (arith, waiting-within rounds lengths list)

    module _ (out : List A) (i : ℕ) (rest : List A) (size : ℕ) (gathering : Gathering rounds lengths list entry out i rest size)
        (less : i < length lengths) (known : i < length rounds) (own others : List A)
        (own-is : own ≡ take (min (length rest) (get_or lengths i 0)) rest)
        (others-are : others ≡ drop (min (length rest) (get_or lengths i 0)) rest) where
      heads : joined_waiting (drop i rounds) (drop i lengths) rest
          ≡ joined_waiting (get_or rounds i 0 ∷ drop (suc i) rounds) (get_or lengths i 0 ∷ drop (suc i) lengths) rest
      heads = ap₂ (λ (l k : List ℕ). joined_waiting l k rest) (drop-cons rounds i 0 known) (drop-cons lengths i 0 less)

      module _ (waits : get_or rounds i 0 ≡ 0) where
        split : joined_waiting (drop i rounds) (drop i lengths) rest ≡ own ++ joined_waiting (drop (i + 1) rounds) (drop (i + 1) lengths) others
        split =
            rw (own-is, others-are, take-min (get_or lengths i 0) rest, drop-min (get_or lengths i 0) rest, add-one)
            (heads ∙ one-waits _ _ _ _ rest waits)

        pub gathering-room : size + length own ≤ length out
        gathering-room = writing-room _ _ entry out size room_for gathering own _ split

        pub gathering-waits : (stored : List A) → stored ≡ sets out size own
            → Gathering rounds lengths list entry stored (i + 1) others (size + length own)
        gathering-waits stored is = rw is (writing_more _ _ entry out size room_for gathering own _ split)

      pub gathering-passed : (get_or rounds i 0 ≡ 0 → ⊥) → Gathering rounds lengths list entry out (i + 1) others size
      gathering-passed not =
          let next : joined_waiting (drop i rounds) (drop i lengths) rest ≡ joined_waiting (drop (i + 1) rounds) (drop (i + 1) lengths) others =
          rw (others-are, drop-min (get_or lengths i 0) rest, add-one) (heads ∙ one-passed _ _ _ _ rest not) in
          rw next at gathering

    pub gathering-done : (out : List A) (i : ℕ) (rest : List A) (size : ℕ) → Gathering rounds lengths list entry out i rest size
        → length lengths ≤ i → Holds (joined_waiting rounds lengths list) out size
    gathering-done out i rest size gathering all =
        let whole = joined_waiting rounds lengths list in
        let left = joined_waiting (drop i rounds) (drop i lengths) rest in
        let empty : left ≡ [] = rw (drop_of_length-le lengths all) (none-waits (drop i rounds) rest) in
        let is = writing-done whole left entry out size room_for gathering empty in
        let many : size ≡ length whole = progress-done whole left size empty gathering.progress in
        record {
          within = rw (is, many) (rw (length-filled whole entry room_for) room_for);
          front = rw (is, many) (take-append_seam whole (drop (length whole) entry));
        }

-- of numbers these are the lists that the rules cut
pub joined_waiting-is : (rounds lengths list : List ℕ) → joined_waiting rounds lengths list ≡ waiting_in rounds lengths list
joined_waiting-is [] lengths list = refl
joined_waiting-is (round ∷ rounds) [] list = refl
joined_waiting-is (zero ∷ rounds) (count ∷ lengths) list =
    ap (λ (l : List ℕ). take count list ++ l) (joined_waiting-is rounds lengths (drop count list))
joined_waiting-is (suc round ∷ rounds) (count ∷ lengths) list = joined_waiting-is rounds lengths (drop count list)
