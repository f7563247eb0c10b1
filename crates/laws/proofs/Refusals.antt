-- One law for every table of refusals: what no refusal says of each check, what one that applies gives, and a table
-- cut in two.
use mathlib.Core.Path.{◌≡◌, refl, sym, ap, ◌∙◌}
use mathlib.Core.Bool.{Bool, true, false, cond}
use mathlib.Core.List.{List, [], ◌∷◌, ◌++◌}
use Prim.Native.Nat.{ℕ, ◌≤◌, ◌<◌}
use native.Mathlib.Omega.{arith}
use borrow.Author.Tests.{ne_eqb}
use Rattle.std.specs.Prelude.{Result, Ok, Err}
use Rattle.std.specs.Result.{result_and}
use Rattle.laws.specs.declared.Refusal.{Refusal}
use Rattle.laws.specs.Refusals.{Check, refused_at, none, given, or_else, answer}

-- every number of a table is above 0
abbrev pub Numbered : List Check → Type 0
Numbered [] = Unit {0}
Numbered (c ∷ checks) = (c.number ≡ 0 → ⊥) × Numbered checks

-- no check applies
abbrev pub Passed : List Check → Type 0
Passed [] = Unit {0}
Passed (c ∷ checks) = (c.applies ≡ false) × Passed checks

pub passed : (checks : List Check) → Numbered checks → (given checks).number ≡ 0 → Passed checks
passed [] numbered unrefused = tt
passed (c ∷ checks) numbered unrefused = go c.applies refl unrefused (passed checks numbered.1)
  where
    go : (applies : Bool) → c.applies ≡ applies
        → (cond applies (refused_at c.number c.place) (given checks)).number ≡ 0
        → ((given checks).number ≡ 0 → Passed checks) → (c.applies ≡ false) × Passed checks
    go true is unrefused rest = absurd (numbered.0 unrefused)
    go false is unrefused rest = (is, rest unrefused)

-- the first part's refusal, or else the second's: checks may be made in parts
pub in_parts : (checks more : List Check) → Numbered checks
    → given (checks ++ more) ≡ or_else (given checks) (given more)
in_parts [] more numbered = refl
in_parts (c ∷ checks) more numbered = go c.applies (in_parts checks more numbered.1)
  where
    go : (applies : Bool) → given (checks ++ more) ≡ or_else (given checks) (given more)
        → cond applies (refused_at c.number c.place) (given (checks ++ more))
        ≡ or_else (cond applies (refused_at c.number c.place) (given checks)) (given more)
    go true rest = rw (ne_eqb c.number 0 numbered.0)
    go false rest = rest

-- where no check applies nothing is refused
pub unrefused : (checks : List Check) → Passed checks → given checks ≡ none
unrefused [] all = refl
unrefused (c ∷ checks) all = rw all.0 (unrefused checks all.1)

-- tables one after the other
pub numbered-both : (checks more : List Check) → Numbered checks → Numbered more → Numbered (checks ++ more)
numbered-both [] more first second = second
numbered-both (c ∷ checks) more first second = (first.0, numbered-both checks more first.1 second)

pub passed_first : (checks more : List Check) → Passed (checks ++ more) → Passed checks
passed_first [] more all = tt
passed_first (c ∷ checks) more all = (all.0, passed_first checks more all.1)

pub passed-both : (checks more : List Check) → Passed checks → Passed more → Passed (checks ++ more)
passed-both [] more first second = second
passed-both (c ∷ checks) more first second = (first.0, passed-both checks more first.1 second)

-- every place of a table is at most a number, where no earlier check applies
abbrev pub Placed : ℕ → List Check → Type 0
Placed most [] = Unit {0}
Placed most (c ∷ checks) = (c.place ≤ most) × (c.applies ≡ false → Placed most checks)

pub placed : (most : ℕ) (checks : List Check) → Placed most checks → (given checks).place ≤ most
placed most [] all = omega arith
placed most (c ∷ checks) all = go c.applies refl (placed most checks)
  where
    go : (applies : Bool) → c.applies ≡ applies → (Placed most checks → (given checks).place ≤ most)
        → (cond applies (refused_at c.number c.place) (given checks)).place ≤ most
    go true is rest = all.0
    go false is rest = rest (all.1 is)

-- every number of a table is below a limit
abbrev pub Below : ℕ → List Check → Type 0
Below limit [] = Unit {0}
Below limit (c ∷ checks) = (c.number < limit) × Below limit checks

pub number-below : (limit : ℕ) (checks : List Check) → 0 < limit → Below limit checks → (given checks).number < limit
number-below limit [] some all = some
number-below limit (c ∷ checks) some all = go c.applies (number-below limit checks some all.1)
  where
    go : (applies : Bool) → (given checks).number < limit
        → (cond applies (refused_at c.number c.place) (given checks)).number < limit
    go true rest = all.0
    go false rest = rest

-- no answer is both
pub ok_or_err : {A E : Type 0} {a : A} {e : E} → ◌≡◌ {A = Result A E} (Err e) (Ok a) → ⊥
ok_or_err is = let never : ◌≡◌ {A = ℕ} 0 1 = cc in omega arith

-- what a table lets through passes each check
pub passed_ok : {A : Type 0} (checks : List Check) (a b : A) → answer checks a ≡ Ok b → Passed checks
passed_ok [] a b is = tt
passed_ok (c ∷ checks) a b is = go c.applies refl is (passed_ok checks a b)
  where
    go : (applies : Bool) → c.applies ≡ applies
        → cond applies (Err (refused_at c.number c.place)) (answer checks a) ≡ Ok b
        → (answer checks a ≡ Ok b → Passed checks) → (c.applies ≡ false) × Passed checks
    go true applies is rest = absurd (ok_or_err is)
    go false applies is rest = (applies, rest is)

pub ok_passed : {A : Type 0} (checks : List Check) (a : A) → Passed checks → answer checks a ≡ Ok a
ok_passed [] a all = refl
ok_passed (c ∷ checks) a all = rw all.0 (ok_passed checks a all.1)

-- and it is the answer that comes out
pub ok_same : {A : Type 0} (checks : List Check) (a b : A) → answer checks a ≡ Ok b → a ≡ b
ok_same [] a b is = cc
ok_same (c ∷ checks) a b is = go c.applies is (ok_same checks a b)
  where
    go : (applies : Bool) → cond applies (Err (refused_at c.number c.place)) (answer checks a) ≡ Ok b
        → (answer checks a ≡ Ok b → a ≡ b) → a ≡ b
    go true is rest = absurd (ok_or_err is)
    go false is rest = rest is

-- what is refused is the first that applies
pub err_given : {A : Type 0} (checks : List Check) (a : A) (r : Refusal) → answer checks a ≡ Err r
    → given checks ≡ r
err_given [] a r is = absurd (ok_or_err (sym is))
err_given (c ∷ checks) a r is = go c.applies is (err_given checks a r)
  where
    go : (applies : Bool) → cond applies (Err (refused_at c.number c.place)) (answer checks a) ≡ Err r
        → (answer checks a ≡ Err r → given checks ≡ r)
        → cond applies (refused_at c.number c.place) (given checks) ≡ r
    go true is rest = cc
    go false is rest = rest is

-- and its number is above 0
pub err-numbered : {A : Type 0} (checks : List Check) (a : A) (r : Refusal) → Numbered checks
    → answer checks a ≡ Err r → r.number ≡ 0 → ⊥
err-numbered checks a r numbered is zero =
    let number = ap (λ (r : Refusal). r.number) (err_given checks a r is) in
    ok_or_err (sym is ∙ ok_passed checks a (passed checks numbered (number ∙ zero)))

-- the place of what a table refuses is at most a number, if each of its checks' is where no earlier one applies
pub refused_place : {A : Type 0} (most : ℕ) (checks : List Check) (a : A) (r : Refusal) → Placed most checks
    → answer checks a ≡ Err r → r.place ≤ most
refused_place most [] a r all is = absurd (ok_or_err (sym is))
refused_place most (c ∷ checks) a r all is = go c.applies refl is (refused_place most checks a r)
  where
    go : (applies : Bool) → c.applies ≡ applies
        → cond applies (Err (refused_at c.number c.place)) (answer checks a) ≡ Err r
        → (Placed most checks → answer checks a ≡ Err r → r.place ≤ most) → r.place ≤ most
    go true applies is rest = let same : c.place ≡ r.place = cc in omega (arith, all.0, same)
    go false applies is rest = rest (all.1 applies) is

-- of two tables, one after the other: the first refuses, whatever the answer would be; else it is the second's
pub answer-in_order : {A B : Type 0} (checks more : List Check) (a : A) (b : B)
    → answer (checks ++ more) b ≡ result_and (answer checks a) (answer more b)
answer-in_order [] more a b = refl
answer-in_order (c ∷ checks) more a b = go c.applies (answer-in_order checks more a b)
  where
    go : (applies : Bool) → answer (checks ++ more) b ≡ result_and (answer checks a) (answer more b)
        → cond applies (Err (refused_at c.number c.place)) (answer (checks ++ more) b)
        ≡ result_and (cond applies (Err (refused_at c.number c.place)) (answer checks a)) (answer more b)
    go true rest = refl
    go false rest = rest
