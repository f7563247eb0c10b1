-- Everyone in a list and someone in it: how claims about the masters go through maps and tests.
use mathlib.Core.Path.{◌≡◌, refl, ap, ap₂, sym, ◌∙◌}
use mathlib.Core.Bool.{Bool, true, false, ◌||◌, or-true, false≢true}
use mathlib.Core.List.{List, [], ◌∷◌, ◌++◌, map, zip_with}
use Prim.Native.Nat.{ℕ, zero, suc, ◌<◌, ◌≤◌, min}
use native.Mathlib.Nat.{not-suc-le-zero, le_of_suc-le-suc, min-eq_left, min-eq_right}
use native.Mathlib.Omega.{arith}
use lib.Dec.{leb}
use lib.ListN.{length, get_or, take, drop, drop_of_length-le}
use lib.Seq.{take_all}
use borrow.Author.Tests.{leb-true, leb-false}
use Rattle.laws.specs.Search.{any}
use Rattle.laws.specs.Everyone.{Everyone, nobody, also, Someone, this, another}

module _ {A : Type 0} where
  -- what holds of each element holds of everyone
  pub everyone : {P : A → Type 0} → ((a : A) → P a) → (l : List A) → Everyone P l
  everyone holds [] = nobody
  everyone holds (a ∷ l) = also (holds a) (everyone holds l)

  pub everyone-so : {P Q : A → Type 0} {l : List A} → ((a : A) → P a → Q a) → Everyone P l → Everyone Q l
  everyone-so step nobody = nobody
  everyone-so step (also {a} p more) = also (step a p) (everyone-so step more)

  pub everyone-both : {P Q : A → Type 0} {l : List A} → Everyone P l → Everyone Q l → Everyone (λ a. P a × Q a) l
  everyone-both nobody nobody = nobody
  everyone-both (also p more) (also q others) = also (p, q) (everyone-both more others)

  pub everyone-append : {P : A → Type 0} {l more : List A} → Everyone P l → Everyone P more → Everyone P (l ++ more)
  everyone-append nobody rest = rest
  everyone-append (also p others) rest = also p (everyone-append others rest)

  pub someone-so : {P Q : A → Type 0} {l : List A} → ((a : A) → P a → Q a) → Someone P l → Someone Q l
  someone-so step (this {a} p) = this (step a p)
  someone-so step (another some) = another (someone-so step some)

  -- there is someone only where there are some
  pub someone-length : {P : A → Type 0} {l : List A} → Someone P l → 0 < length l
  someone-length (this p) = omega arith
  someone-length (another some) = omega arith

  -- someone of whom a claim holds, where another claim holds of everyone
  pub someone-both : {P Q : A → Type 0} {l : List A} → Everyone P l → Someone Q l → Someone (λ a. P a × Q a) l
  someone-both {P = P} {Q = Q} nobody some = elim some [ ]
  someone-both (also p more) (this q) = this (p, q)
  someone-both (also p more) (another some) = another (someone-both more some)

  pub any-alike : {f g : A → Bool} {l : List A} → Everyone (λ a. f a ≡ g a) l → any f l ≡ any g l
  any-alike nobody = refl
  any-alike (also same more) = ap₂ ◌||◌ same (any-alike more)

  pub any_none : {f : A → Bool} {l : List A} → Everyone (λ a. f a ≡ false) l → any f l ≡ false
  any_none nobody = refl
  any_none (also no_one more) = ap₂ ◌||◌ no_one (any_none more)

  pub any-one : {f : A → Bool} {l : List A} → Someone (λ a. f a ≡ true) l → any f l ≡ true
  any-one {f} (this {a} {l} one) = ap (λ b. b || any f l) one
  any-one {f} (another {a} some) = ap (λ b. f a || b) (any-one some) ∙ or-true (f a)

  -- the front of a list that may be shorter, and the rest of it
  pub take-least : (n : ℕ) (l : List A) → take (min n (length l)) l ≡ take n l
  take-least n l = by-test (leb n (length l)) refl
    where
      by-test : (b : Bool) → leb n (length l) ≡ b → take (min n (length l)) l ≡ take n l
      by-test true e = ap (λ (k : ℕ). take k l) (min-eq_left (leb-true n (length l) e))
      by-test false e =
          let past : length l ≤ n = omega (arith, leb-false n (length l) e) in
          take_all (min n (length l)) l (omega (arith, min-eq_right past)) ∙ sym (take_all n l past)

  pub drop-least : (n : ℕ) (l : List A) → drop (min n (length l)) l ≡ drop n l
  drop-least n l = by-test (leb n (length l)) refl
    where
      by-test : (b : Bool) → leb n (length l) ≡ b → drop (min n (length l)) l ≡ drop n l
      by-test true e = ap (λ (k : ℕ). drop k l) (min-eq_left (leb-true n (length l) e))
      by-test false e =
          let past : length l ≤ n = omega (arith, leb-false n (length l) e) in
          let all : length l ≤ min n (length l) = omega (arith, min-eq_right past) in
          drop_of_length-le l all ∙ sym (drop_of_length-le l past)

module _ {A B : Type 0} where
  pub everyone-map : {P : B → Type 0} (f : A → B) {l : List A} → Everyone (λ a. P (f a)) l → Everyone P (map f l)
  everyone-map f nobody = nobody
  everyone-map f (also p more) = also p (everyone-map f more)

  pub someone-map : {P : B → Type 0} (f : A → B) {l : List A} → Someone (λ a. P (f a)) l → Someone P (map f l)
  someone-map f (this p) = this p
  someone-map f (another some) = another (someone-map f some)

  pub map-alike : {f g : A → B} {l : List A} → Everyone (λ a. f a ≡ g a) l → map f l ≡ map g l
  map-alike nobody = refl
  map-alike (also same more) = ap₂ ◌∷◌ same (map-alike more)

  pub any-map : (test : B → Bool) (f : A → B) (l : List A) → any test (map f l) ≡ any (λ a. test (f a)) l
  any-map test f [] = refl
  any-map test f (a ∷ l) = ap (λ b. test (f a) || b) (any-map test f l)

module _ {A B C : Type 0} where
  -- a list of masters made from the messages, taken with the messages
  pub zip_with-map : (f : B → A → C) (g : A → B) (l : List A) → zip_with f (map g l) l ≡ map (λ a. f (g a) a) l
  unfolding zip_with
  zip_with-map f g [] = refl
  zip_with-map f g (a ∷ l) = ap (λ k. f (g a) a ∷ k) (zip_with-map f g l)

-- what the tests say of a list
pub any_false : {A : Type 0} (test : A → Bool) (l : List A) → any test l ≡ false → Everyone (λ a. test a ≡ false) l
any_false test [] none_so = nobody
any_false test (a ∷ l) none_so = go (any_false test l) (test a) refl
  where
    go : (any test l ≡ false → Everyone (λ a. test a ≡ false) l) → (first : Bool) → test a ≡ first
        → Everyone (λ a. test a ≡ false) (a ∷ l)
    go rest true first = absurd (false≢true (sym (rw first at none_so)))
    go rest false first = also first (rest (rw first at none_so))

pub any-true : {A : Type 0} (test : A → Bool) (l : List A) → any test l ≡ true → Someone (λ a. test a ≡ true) l
any-true test [] some-so = absurd (false≢true some-so)
any-true test (a ∷ l) some-so = go (any-true test l) (test a) refl
  where
    go : (any test l ≡ true → Someone (λ a. test a ≡ true) l) → (first : Bool) → test a ≡ first
        → Someone (λ a. test a ≡ true) (a ∷ l)
    go rest true first = this first
    go rest false first = another (rest (rw first at some-so))

-- an element of two lists zipped, and how many there are
module _ {A B C : Type 0} (f : A → B → C) where
  pub zip_with-at : (list : List A) (others : List B) (i : ℕ) (empty : A) (none : B) (nothing : C) → i < length list
      → i < length others
      → get_or (zip_with f list others) i nothing ≡ f (get_or list i empty) (get_or others i none)
  unfolding zip_with
  zip_with-at [] others i empty none nothing less less_other = absurd (not-suc-le-zero less)
  zip_with-at (a ∷ list) [] i empty none nothing less less_other = absurd (not-suc-le-zero less_other)
  zip_with-at (a ∷ list) (b ∷ others) zero empty none nothing less less_other = refl
  zip_with-at (a ∷ list) (b ∷ others) (suc i) empty none nothing less less_other =
      zip_with-at list others i empty none nothing (le_of_suc-le-suc less) (le_of_suc-le-suc less_other)

  pub zip_with-length : (list : List A) (others : List B)
      → length (zip_with f list others) ≡ min (length list) (length others)
  unfolding zip_with
  zip_with-length [] others = omega arith
  zip_with-length (a ∷ list) [] = omega arith
  zip_with-length (a ∷ list) (b ∷ others) = omega (arith, zip_with-length list others)

-- no more than there are
pub take_min : {A : Type 0} (count : ℕ) (list : List A) → take (min (length list) count) list ≡ take count list
take_min zero [] = refl
take_min {A} (suc count) [] =
    let none : min 0 (suc count) ≡ 0 = omega arith in
    ap (λ (k : ℕ). take {A = A} k []) none
take_min {A} zero (a ∷ list) =
    let none : min (suc (length list)) 0 ≡ 0 = omega arith in
    ap (λ (k : ℕ). take k (a ∷ list)) none
take_min {A} (suc count) (a ∷ list) =
    let one : min (suc (length list)) (suc count) ≡ suc (min (length list) count) = omega arith in
    rw one (ap (λ (l : List A). a ∷ l) (take_min count list))

-- one function after another
pub map-map : {A B C : Type 0} (g : B → C) (f : A → B) (list : List A) → map g (map f list) ≡ map (λ a. g (f a)) list
map-map g f [] = refl
map-map g f (a ∷ list) = ap (λ l. g (f a) ∷ l) (map-map g f list)

pub map_same : {A : Type 0} (f : A → A) → ((a : A) → f a ≡ a) → (list : List A) → map f list ≡ list
map_same f same [] = refl
map_same f same (a ∷ list) = ap₂ (λ b l. b ∷ l) (same a) (map_same f same list)

module _ {A B C : Type 0} where
  pub zip_with-alike : (f g : A → B → C) → ((a : A) (b : B) → f a b ≡ g a b) → (list : List A) (others : List B)
      → zip_with f list others ≡ zip_with g list others
  unfolding zip_with
  zip_with-alike f g alike [] others = refl
  zip_with-alike f g alike (a ∷ list) [] = refl
  zip_with-alike f g alike (a ∷ list) (b ∷ others) =
      ap₂ (λ c l. c ∷ l) (alike a b) (zip_with-alike f g alike list others)

  -- a function of the first alone
  pub zip_with-first : (f : A → C) (list : List A) (others : List B) → length list ≤ length others
      → zip_with (λ a b. f a) list others ≡ map f list
  unfolding zip_with
  zip_with-first f [] others enough = refl
  zip_with-first f (a ∷ list) [] enough = absurd (not-suc-le-zero enough)
  zip_with-first f (a ∷ list) (b ∷ others) enough =
      ap (λ l. f a ∷ l) (zip_with-first f list others (le_of_suc-le-suc enough))

  -- what is past the first list is not looked at
  pub zip_with-front : (f : A → B → C) (list : List A) (others more : List B) → length list ≤ length others
      → zip_with f list (others ++ more) ≡ zip_with f list others
  unfolding zip_with
  zip_with-front f [] others more enough = refl
  zip_with-front f (a ∷ list) [] more enough = absurd (not-suc-le-zero enough)
  zip_with-front f (a ∷ list) (b ∷ others) more enough =
      ap (λ l. f a b ∷ l) (zip_with-front f list others more (le_of_suc-le-suc enough))

module _ {A B C D : Type 0} where
  pub map-zip_with : (g : C → D) (f : A → B → C) (list : List A) (others : List B)
      → map g (zip_with f list others) ≡ zip_with (λ a b. g (f a b)) list others
  unfolding zip_with
  map-zip_with g f [] others = refl
  map-zip_with g f (a ∷ list) [] = refl
  map-zip_with g f (a ∷ list) (b ∷ others) = ap (λ l. g (f a b) ∷ l) (map-zip_with g f list others)

  pub zip_with-by : (f : A → C → D) (g : B → C) (list : List A) (others : List B)
      → zip_with f list (map g others) ≡ zip_with (λ a b. f a (g b)) list others
  unfolding zip_with
  zip_with-by f g [] others = refl
  zip_with-by f g (a ∷ list) [] = refl
  zip_with-by f g (a ∷ list) (b ∷ others) = ap (λ l. f a (g b) ∷ l) (zip_with-by f g list others)
