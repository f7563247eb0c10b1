-- Loops that search a list from its front: what holds at the loop's head, and what a turn does.
use Prim.Native.Nat.{ℕ, zero, suc, ◌+◌, ◌<◌, ◌≤◌}
use mathlib.Core.Path.{◌≡◌, refl, sym, ap, ◌∙◌}
use mathlib.Core.Bool.{Bool, cond, true, false, ◌&&◌, ◌||◌}
use mathlib.Core.List.{List, [], ◌∷◌, ◌++◌}
use native.Mathlib.Nat.{not-suc-le-zero}
use native.Mathlib.Numerals.{add-one}
use native.Mathlib.Omega.{arith}
use lib.Dec.{eqb, ltb}
use lib.ListN.{length, get_or, drop, drop_of_length-le}
use borrow.Author.Tests.{eqb-true, eqb-false, ltb-true, ltb-false, lt-ltb, le-ltb}
use lib.Seq.{drop-cons}
use Rattle.laws.specs.Search.{first, any, all}
use Rattle.laws.proofs.Bools.{both}

-- a test that goes on past both heads
pub ltb-suc : (a b : ℕ) → ltb (suc a) (suc b) ≡ ltb a b
ltb-suc a b = go (ltb a b) refl
  where
    go : (test : Bool) → ltb a b ≡ test → ltb (suc a) (suc b) ≡ test
    go true less = let more : suc a < suc b = omega (arith, ltb-true a b less) in lt-ltb (suc a) (suc b) more
    go false not-less = let most : suc b ≤ suc a = omega (arith, ltb-false a b not-less) in le-ltb (suc a) (suc b)
        most

-- for the first element that passes a test, or whether there is one
module _ {A : Type 0} (test : A → Bool) where
  -- the first i elements fail the test
  pub record Passed (list : List A) (i : ℕ) : Type 0 where
    pub within : i ≤ length list
    pub same : first test list ≡ i + first test (drop i list)
    pub none : any test list ≡ any test (drop i list)

  pub passed_start : (list : List A) → Passed list 0
  passed_start list = record { within = omega arith; same = omega arith; none = refl }

  module _ (list : List A) (i : ℕ) (empty : A) (passed : Passed list i) (less : i < length list) where
    next : drop i list ≡ get_or list i empty ∷ drop (suc i) list
    next = drop-cons list i empty less

    here : first test list ≡ i + cond (test (get_or list i empty)) 0 (suc (first test (drop (suc i) list)))
    here = passed.same ∙ ap (λ (rest : List A). i + first test rest) next

    some : any test list ≡ test (get_or list i empty) || any test (drop (suc i) list)
    some = passed.none ∙ ap (any test) next

    pub passed-more : test (get_or list i empty) ≡ false → Passed list (i + 1)
    passed-more fails =
        record {
          within = omega arith;
          same = rw add-one (omega (arith, rw fails at here));
          none = rw add-one (rw fails at some);
        }

    pub found_first : test (get_or list i empty) ≡ true → i ≡ first test list
    found_first passes = omega (arith, rw passes at here)

    pub found-any : test (get_or list i empty) ≡ true → true ≡ any test list
    found-any passes = sym (rw passes at some)

  module _ (list : List A) (i : ℕ) (passed : Passed list i) (end : length list ≤ i) where
    pub none_first : i ≡ first test list
    none_first = omega (
      arith,
      passed.same ∙ ap (λ (rest : List A). i + first test rest)
          (drop_of_length-le list end),
    )

    pub none_any : false ≡ any test list
    none_any = sym (passed.none ∙ ap (any test) (drop_of_length-le list end))

  pub first-within : (list : List A) → first test list ≤ length list
  first-within [] = omega arith
  first-within (a ∷ others) = go (test a) (first-within others)
    where
      go : (passes : Bool) → first test others ≤ length others
          → cond passes 0 (suc (first test others)) ≤ length (a ∷ others)
      go true rest = omega arith
      go false rest = omega arith

  -- there is one exactly where the first stands before the end
  pub any-first : (list : List A) → any test list ≡ ltb (first test list) (length list)
  any-first [] = refl
  any-first (a ∷ others) = go (test a) (any-first others)
    where
      go : (passes : Bool) → any test others ≡ ltb (first test others) (length others)
          → passes || any test others ≡ ltb (cond passes 0 (suc (first test others))) (length (a ∷ others))
      go true rest = sym (lt-ltb 0 (length (a ∷ others)) (omega arith))
      go false rest = rest ∙ sym (ltb-suc (first test others) (length others))

-- for whether all pass
module _ {A : Type 0} (test : A → Bool) where
  -- the first i elements pass the test
  pub record Passing (list : List A) (i : ℕ) : Type 0 where
    pub within : i ≤ length list
    pub rest : all test list ≡ all test (drop i list)

  pub passing-start : (list : List A) → Passing list 0
  passing-start list = record { within = omega arith; rest = refl }

  module _ (list : List A) (i : ℕ) (empty : A) (passing : Passing list i) (less : i < length list) where
    every : all test list ≡ test (get_or list i empty) && all test (drop (i + 1) list)
    every = passing.rest ∙ rw (drop-cons list i empty less, add-one)

    pub passing-more : test (get_or list i empty) ≡ true → Passing list (i + 1)
    passing-more passes = record { within = omega arith; rest = rw passes at every }

    pub found-not : test (get_or list i empty) ≡ false → false ≡ all test list
    found-not fails = sym (rw fails at every)

  pub passing-all : (list : List A) (i : ℕ) → Passing list i → length list ≤ i → true ≡ all test list
  passing-all list i passing end = sym (passing.rest ∙ ap (all test) (drop_of_length-le list end))

  -- one more at the end
  pub all_more : (list : List A) (a : A) → all test list ≡ true → test a ≡ true → all test (list ++ a ∷ []) ≡ true
  all_more [] a every passes = rw passes
  all_more (b ∷ list) a every passes = go (test b) (all_more list a) every
    where
      go : (head : Bool) → (all test list ≡ true → test a ≡ true → all test (list ++ a ∷ []) ≡ true)
          → head && all test list ≡ true → head && all test (list ++ a ∷ []) ≡ true
      go true rest every = rest every passes
      go false rest every = every

-- a test of every number below one, made once
abbrev pub all_below : (ℕ → Bool) → ℕ → Bool
all_below test zero = true
all_below test (suc count) = test count && all_below test count

pub all-below : (test : ℕ → Bool) (count : ℕ) → all_below test count ≡ true → (i : ℕ) → i < count → test i ≡ true
all-below test zero every i less = absurd (not-suc-le-zero less)
all-below test (suc count) every i less =
    let two = both (test count) (all_below test count) every in
    go (eqb i count) refl two.0 (all-below test count two.1 i)
  where
    go : (last : Bool) → eqb i count ≡ last → test count ≡ true → (i < count → test i ≡ true) → test i ≡ true
    go true is here rest = rw (eqb-true i count is) here
    go false is here rest = rest (omega (arith, less, eqb-false i count is))
