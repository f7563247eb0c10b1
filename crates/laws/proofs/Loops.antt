-- Loops over an array from the front, one store a turn: after i turns the first i elements are replaced.
use Prim.Native.Nat.{ℕ, zero, suc, ◌+◌, ◌-◌, ◌<◌, ◌≤◌, min}
use mathlib.Core.Path.{◌≡◌, refl, sym, ap, ap₂, ◌∙◌}
use mathlib.Core.Bool.{Bool, true, false, ◌||◌, or-false, or_assoc}
use mathlib.Core.List.{List, [], ◌∷◌, ◌++◌, map, zip_with, append-nil, map-id}
use native.Mathlib.Nat.{not-suc-le-zero, le_of_suc-le-suc, suc-sub-suc, sub-zero}
use native.Mathlib.Numerals.{add-one}
use native.Mathlib.Omega.{arith}
use borrow.Author.Tests.{leb-true, leb-false}
use lib.Dec.{leb}
use lib.ListN.{length, get_or, set, take, drop, replicate, drop_of_length-le, length-replicate}
use lib.Seq.{take-suc, take_all, take-take, length-take-le}
use Rattle.laws.specs.Search.{any}

-- each element by a function of another list's
module _ {A B : Type 0} (f : A → B) where
  gathered-suc : (list : List A) (out : List B) (i : ℕ) (empty : A) → i < length list → i < length out
      → set (map f (take i list) ++ drop i out) i (f (get_or list i empty))
      ≡ map f (take (suc i) list) ++ drop (suc i) out
  gathered-suc [] out i empty less room = absurd (not-suc-le-zero less)
  gathered-suc (a ∷ list) [] i empty less room = absurd (not-suc-le-zero room)
  gathered-suc (a ∷ list) (b ∷ out) zero empty less room = refl
  gathered-suc (a ∷ list) (b ∷ out) (suc i) empty less room =
      ap (λ (l : List B). f a ∷ l) (gathered-suc list out i empty (le_of_suc-le-suc less) (le_of_suc-le-suc room))

  pub gathered-more : (list : List A) (entry out : List B) (i : ℕ) (empty : A)
      → out ≡ map f (take i list) ++ drop i entry → i < length list → i < length entry
      → set out i (f (get_or list i empty)) ≡ map f (take (i + 1) list) ++ drop (i + 1) entry
  gathered-more list entry out i empty same less room = rw (same, add-one) (gathered-suc list entry i empty less room)

-- a function on the first count elements
abbrev pub mapped : {A : Type 0} → (A → A) → ℕ → List A → List A
mapped f count list = map f (take count list) ++ drop count list

-- each element by a function
module _ {A : Type 0} (f : A → A) where
  mapped_at : (list : List A) (i : ℕ) (empty : A) → get_or (mapped f i list) i empty ≡ get_or list i empty
  mapped_at list zero empty = refl
  mapped_at [] (suc i) empty = refl
  mapped_at (a ∷ list) (suc i) empty = mapped_at list i empty

  pub mapped-more : (list out : List A) (i : ℕ) (empty r : A) → out ≡ mapped f i list → r ≡ f (get_or out i empty)
      → i < length list → set out i r ≡ mapped f (i + 1) list
  mapped-more list out i empty r same is less =
      rw (is, same, mapped_at list i empty, add-one) (gathered-suc f list list i empty less less)

-- each element by a function of two other lists'
module _ {A B C : Type 0} (f : A → B → C) where
  abbrev pub paired : List A → List B → List C → ℕ → List C
  paired list others entry i = zip_with f (take i list) (take i others) ++ drop i entry

  paired-suc : (list : List A) (others : List B) (entry : List C) (i : ℕ) (empty : A) (none : B) → i < length list
      → i < length others → i < length entry
      → set (paired list others entry i) i (f (get_or list i empty) (get_or others i none))
      ≡ paired list others entry (suc i)
  unfolding zip_with
  paired-suc [] others entry i empty none less less_other room = absurd (not-suc-le-zero less)
  paired-suc (a ∷ list) [] entry i empty none less less_other room = absurd (not-suc-le-zero less_other)
  paired-suc (a ∷ list) (b ∷ others) [] i empty none less less_other room = absurd (not-suc-le-zero room)
  paired-suc (a ∷ list) (b ∷ others) (c ∷ entry) zero empty none less less_other room = refl
  paired-suc (a ∷ list) (b ∷ others) (c ∷ entry) (suc i) empty none less less_other room =
      ap (λ (l : List C). f a b ∷ l)
      (paired-suc list others entry i empty none (le_of_suc-le-suc less) (le_of_suc-le-suc less_other)
      (le_of_suc-le-suc room))

  pub paired-more : (list : List A) (others : List B) (entry out : List C) (i : ℕ) (empty : A) (none : B)
      → out ≡ paired list others entry i → i < length list → i < length others → i < length entry
      → set out i (f (get_or list i empty) (get_or others i none)) ≡ paired list others entry (i + 1)
  paired-more list others entry out i empty none same less less_other room =
      rw (same, add-one) (paired-suc list others entry i empty none less less_other room)

  pub paired-all : (list : List A) (others : List B) (entry out : List C) (i : ℕ)
      → out ≡ paired list others entry i → length list ≤ i → length others ≤ i → length entry ≤ i
      → out ≡ zip_with f list others
  paired-all list others entry out i same all All-others none =
      rw (same, take_all i list all, take_all i others All-others, drop_of_length-le entry none)
      (append-nil (zip_with f list others))

-- each element by a function of it and of another list's element
module _ {A B : Type 0} (f : A → B → A) where
  abbrev pub zipped : List A → List B → ℕ → List A
  zipped list others i = paired f list others list i

  pub zipped-at : (list : List A) (others : List B) (i : ℕ) (empty : A) → i < length others
      → get_or (zipped list others i) i empty ≡ get_or list i empty
  unfolding zip_with
  zipped-at list others zero empty less = refl
  zipped-at [] others (suc i) empty less = refl
  zipped-at (a ∷ list) [] (suc i) empty less = absurd (not-suc-le-zero less)
  zipped-at (a ∷ list) (b ∷ others) (suc i) empty less = zipped-at list others i empty (le_of_suc-le-suc less)

  pub zipped-more : (list out : List A) (others : List B) (i : ℕ) (empty r : A) (none : B) → out ≡ zipped list others
      i
      → r ≡ f (get_or out i empty) (get_or others i none) → i < length list → i < length others
      → set out i r ≡ zipped list others (i + 1)
  zipped-more list out others i empty r none same is less less_other =
      rw (is, same, zipped-at list others i empty less_other, add-one)
      (paired-suc f list others list i empty none less less_other less)

-- each element by the same value
module _ {A : Type 0} (a : A) where
  filled-suc : (list : List A) (i : ℕ) → i < length list
      → set (replicate i a ++ drop i list) i a ≡ replicate (suc i) a ++ drop (suc i) list
  filled-suc [] i less = absurd (not-suc-le-zero less)
  filled-suc (b ∷ list) zero less = refl
  filled-suc (b ∷ list) (suc i) less = ap (λ (l : List A). a ∷ l) (filled-suc list i (le_of_suc-le-suc less))

  pub filled_more : (list out : List A) (i : ℕ) → out ≡ replicate i a ++ drop i list → i < length list
      → set out i a ≡ replicate (i + 1) a ++ drop (i + 1) list
  filled_more list out i same less = rw (same, add-one) (filled-suc list i less)

  pub drop-replicate : (limit count : ℕ) → count ≤ limit → drop count (replicate limit a) ≡ replicate (limit - count)
      a
  drop-replicate limit zero within = rw sub-zero
  drop-replicate zero (suc count) within = absurd (not-suc-le-zero within)
  drop-replicate (suc limit) (suc count) within = rw suc-sub-suc
      (drop-replicate limit count (le_of_suc-le-suc within))

-- a test of any element
module _ {A : Type 0} (test : A → Bool) where
  any-end : (list : List A) (a : A) → any test (list ++ a ∷ []) ≡ any test list || test a
  any-end [] a = or-false (test a)
  any-end (b ∷ list) a =
      ap (λ (rest : Bool). test b || rest) (any-end list a) ∙ sym (or_assoc (test b) (any test list) (test a))

  pub any-more : (list : List A) (i : ℕ) (empty : A) (so_far here : Bool) → so_far ≡ any test (take i list)
      → here ≡ test (get_or list i empty) → i < length list → so_far || here ≡ any test (take (i + 1) list)
  any-more list i empty so_far here same is less =
      rw (same, is, add-one, take-suc list i empty less) (sym (any-end (take i list) (get_or list i empty)))

pub gathered-all : {A B : Type 0} (f : A → B) (list : List A) (entry out : List B) (i : ℕ)
    → out ≡ map f (take i list) ++ drop i entry → length list ≤ i → length entry ≤ i → out ≡ map f list
gathered-all f list entry out i same all none =
    rw (same, take_all i list all, drop_of_length-le entry none) (append-nil (map f list))

-- elements copied from another list, as many as there are or as fit
module _ {A : Type 0} (blank : A) (limit : ℕ) (list : List A) where
  pub copied_more : (out : List A) (i : ℕ) (empty : A) → out ≡ take i list ++ drop i (replicate limit blank)
      → i < length list → i < limit
      → set out i (get_or list i empty) ≡ take (i + 1) list ++ drop (i + 1) (replicate limit blank)
  copied_more out i empty same less room =
      let start : out ≡ map (λ (x : A). x) (take i list) ++ drop i (replicate limit blank) =
      same ∙ ap (λ (l : List A). l ++ drop i (replicate limit blank)) (sym (map-id (take i list))) in
      gathered-more (λ (x : A). x) list (replicate limit blank) out i empty start less
      (omega (arith, room, length-replicate {A = A} limit blank))
      ∙ ap (λ (l : List A). l ++ drop (i + 1) (replicate limit blank)) (map-id (take (i + 1) list))

  -- the first so many of them, and blanks
  pub copied-done : (out : List A) (i count : ℕ) → out ≡ take i list ++ drop i (replicate limit blank)
      → i ≡ min count limit → count ≤ length list
      → out ≡ take limit (take count list) ++ replicate (limit - length (take count list)) blank
  copied-done out i count same end within =
      let size : length (take count list) ≡ count = length-take-le count list within in
      let left : limit - i ≡ limit - length (take count list) = omega (arith, end, size) in
      same
      ∙ ap₂ (λ (head rest : List A). head ++ rest)
      (ap (λ (k : ℕ). take k list) end ∙ sym (taken size (leb count limit) refl))
      (drop-replicate blank limit i (omega (arith, end)) ∙ ap (λ (k : ℕ). replicate k blank) left)
    where
      taken : length (take count list) ≡ count → (few : Bool) → leb count limit ≡ few
          → take limit (take count list) ≡ take (min count limit) list
      taken size true is =
          let small = leb-true count limit is in
          let one : min count limit ≡ count = omega (arith, small) in
          take_all limit (take count list) (omega (arith, size, small)) ∙ ap (λ (k : ℕ). take k list) (sym one)
      taken size false is =
          let large = leb-false count limit is in
          let one : min count limit ≡ limit = omega (arith, large) in
          take-take limit count list (omega (arith, large)) ∙ ap (λ (k : ℕ). take k list) (sym one)
