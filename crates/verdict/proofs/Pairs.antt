-- Two lists gone through together with a test of each pair: what holds at the loop's head, and what a turn does.
use Prim.Native.Nat.{ℕ, suc, ◌+◌, ◌<◌, ◌≤◌, min}
use mathlib.Core.Path.{◌≡◌, refl, sym, ap, ap₂, ◌∙◌}
use mathlib.Core.Bool.{Bool, true, false, ◌&&◌}
use mathlib.Core.List.{List, [], ◌∷◌}
use native.Mathlib.Numerals.{add-one}
use native.Mathlib.Omega.{arith}
use borrow.Author.Tests.{leb-true, leb-false}
use lib.Dec.{leb}
use lib.ListN.{length, get_or, drop, drop_of_length-le}
use lib.Seq.{drop-cons}

-- a question of two lists, which a test of the first pair leaves to the rest
module _ {A B : Type 0} (asked : List A → List B → Bool) (test : A → B → Bool)
    (step : (a : A) (b : B) (list : List A) (others : List B)
    → asked (a ∷ list) (b ∷ others) ≡ test a b && asked list others) where
  -- the first i pairs pass the test
  pub record Through (list : List A) (others : List B) (i : ℕ) : Type 0 where
    pub within : i ≤ length list
    pub within-other : i ≤ length others
    pub rest : asked list others ≡ asked (drop i list) (drop i others)

  pub through-start : (list : List A) (others : List B) → Through list others 0
  through-start list others = record { within = omega arith; within-other = omega arith; rest = refl }

  module _ (list : List A) (others : List B) (i : ℕ) (empty : A) (none : B) (through : Through list others i)
      (less : i < length list) (less_other : i < length others) where
    here : asked list others
        ≡ test (get_or list i empty) (get_or others i none) && asked (drop (suc i) list) (drop (suc i) others)
    here =
        through.rest
        ∙ ap₂ asked (drop-cons list i empty less) (drop-cons others i none less_other)
        ∙ step (get_or list i empty) (get_or others i none) (drop (suc i) list) (drop (suc i) others)

    pub through-more : test (get_or list i empty) (get_or others i none) ≡ true → Through list others (i + 1)
    through-more passes =
        record { within = omega arith; within-other = omega arith; rest = rw add-one (rw passes at here) }

    pub through-fails : test (get_or list i empty) (get_or others i none) ≡ false → false ≡ asked list others
    through-fails fails = sym (rw fails at here)

  -- the rest is empty, of both or of one
  pub through-both : (list : List A) (others : List B) (i : ℕ) → Through list others i → asked [] [] ≡ true
      → length list ≤ i → length others ≤ i → true ≡ asked list others
  through-both list others i through end all all_others =
      sym
      (through.rest
      ∙ ap₂ asked (drop_of_length-le list all) (drop_of_length-le others all_others)
      ∙ end)

  pub through-one : (list : List A) (others : List B) (i : ℕ) → Through list others i
      → ((rest : List B) → asked [] rest ≡ true) → ((rest : List A) → asked rest [] ≡ true)
      → min (length list) (length others) ≤ i → true ≡ asked list others
  through-one list others i through end end-other past = go (leb (length list) i) refl
    where
      go : (over : Bool) → leb (length list) i ≡ over → true ≡ asked list others
      go true is =
          let all = leb-true (length list) i is in
          sym
          (through.rest
          ∙ ap (λ (l : List A). asked l (drop i others)) (drop_of_length-le list all)
          ∙ end (drop i others))
      go false is =
          let all_others : length others ≤ i = omega (arith, past, leb-false (length list) i is) in
          sym
          (through.rest
          ∙ ap (asked (drop i list)) (drop_of_length-le others all_others)
          ∙ end-other (drop i list))
