-- Lists searched from the front.
use Rattle.std.specs.Prelude.{ℕ, suc, Bool, cond, true, false, ◌&&◌, ◌||◌, List, [], ◌∷◌}

-- the index of the first element that passes a test, else how many there are
abbrev pub first : {A : Type 0} → (A → Bool) → List A → ℕ
first test [] = 0
first test (a ∷ others) = cond (test a) 0 (suc (first test others))

-- whether any passes (the library's `any` does not compute outside its module)
abbrev pub any : {A : Type 0} → (A → Bool) → List A → Bool
any test [] = false
any test (a ∷ others) = test a || any test others

-- whether all pass
abbrev pub all : {A : Type 0} → (A → Bool) → List A → Bool
all test [] = true
all test (a ∷ others) = test a && all test others
