-- A table whose entries a function makes, for contracts inside the crate.
use Rattle.std.specs.Prelude.{◌≡◌}

-- each call gives the entry's number
pub record Numbers {A B : Type 0} (numbered : A → B) (number : A → B → Type 0) : Type 0 where
  pub numbers : (entry : A) (given : B) → number entry given → given ≡ numbered entry
