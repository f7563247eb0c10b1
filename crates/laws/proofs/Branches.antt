-- Rules by which `search` takes a definition's case from the tests that led to a `return`.
use mathlib.Core.Path.{◌≡◌, refl, ◌∙◌, sym}
use mathlib.Core.Bool.{Bool, cond, true, false, not}
use Prim.Native.Nat.{ℕ}
use lib.Dec.{eqb}
use borrow.Author.Tests.{eq-eqb, ne_eqb, not-true, not-false, lt-ltb, le-ltb, le-leb, lt-leb}

pub first-case : {A : Type 0} (b : Bool) (r x y : A) → b ≡ true → r ≡ x → r ≡ cond b x y
first-case b r x y p q = rw p q

pub second-case : {A : Type 0} (b : Bool) (r x y : A) → b ≡ false → r ≡ y → r ≡ cond b x y
second-case b r x y p q = rw p q

-- a call answered a, which is b by its contract, and the code tested `!a`
pub call-true : (a b : Bool) → a ≡ b → not a ≡ false → b ≡ true
call-true a b e p = sym e ∙ not-false a p

pub call-false : (a b : Bool) → a ≡ b → not a ≡ true → b ≡ false
call-false a b e p = sym e ∙ not-true a p

-- a call answered a, which is b by its contract, and the code tested `a`
pub call-yes : (a b : Bool) → a ≡ b → a ≡ true → b ≡ true
call-yes a b e p = sym e ∙ p

pub call-no : (a b : Bool) → a ≡ b → a ≡ false → b ≡ false
call-no a b e p = sym e ∙ p

-- a call answered the number a, which is b by its contract, and the code compared it with k
pub call-is : (a b k : ℕ) → a ≡ b → a ≡ k → eqb b k ≡ true
call-is a b k e p = eq-eqb b k (sym e ∙ p)

pub call-is-not : (a b k : ℕ) → a ≡ b → (a ≡ k → ⊥) → eqb b k ≡ false
call-is-not a b k e p = ne_eqb b k (λ q. p (e ∙ q))

-- a number that is one key of a match is no other key
pub other_key : (x k j : ℕ) → x ≡ k → eqb k j ≡ false → eqb x j ≡ false
other_key x k j e t = rw e t

pub ruleset branches = (
  refl,
  first-case,
  second-case,
  call-is,
  call-is-not,
  other_key,
  call-true,
  call-false,
  call-yes,
  call-no,
  eq-eqb,
  ne_eqb,
  lt-ltb,
  le-ltb,
  le-leb,
  lt-leb,
)
