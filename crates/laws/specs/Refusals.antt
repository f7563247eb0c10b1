-- Refusals as tables: each check has a number, whether it applies, and a place; the first that applies is given.
use Rattle.std.specs.Prelude.{ℕ, Bool, cond, List, [], ◌∷◌, eqb, Result, Ok, Err}
use Rattle.laws.specs.declared.Refusal.{Refusal}

pub record Check : Type 0 where
  pub number : ℕ
  pub applies : Bool
  pub place : ℕ

-- a check whose refusal has a place, and one whose has none
abbrev pub check_at : ℕ → Bool → ℕ → Check
check_at number applies place = record { number = number; applies = applies; place = place }

abbrev pub check : ℕ → Bool → Check
check number applies = check_at number applies 0

abbrev pub refused_at : ℕ → ℕ → Refusal
refused_at number place = record { number = number; place = place }

-- nothing is refused
abbrev pub none : Refusal
none = refused_at 0 0

-- the first that applies, in the table's order
abbrev pub given : List Check → Refusal
given [] = none
given (c ∷ checks) = cond c.applies (refused_at c.number c.place) (given checks)

-- a refusal, or another where there is none
abbrev pub or_else : Refusal → Refusal → Refusal
or_else one other = cond (eqb one.number 0) other one

-- what a table lets through: the answer, or else the first that applies
abbrev pub answer : {A : Type 0} → List Check → A → Result A Refusal
answer [] a = Ok a
answer (c ∷ checks) a = cond c.applies (Err (refused_at c.number c.place)) (answer checks a)
