-- The lists that wait, put together anew, for contracts inside the crate.
use Rattle.std.specs.Prelude.{ℕ, zero, suc, ◌≤◌, ◌≡◌, List, [], ◌∷◌, ◌++◌, length, take, drop}
use Rattle.arbitration_rules.specs.Reply.{cut, joined}
use Rattle.night_rules.specs.Night.{waiting}

-- of lists that lie one after the other in one, each of its length, those that wait, joined again
abbrev pub waiting_in : List ℕ → List ℕ → List ℕ → List ℕ
waiting_in rounds lengths list = joined (waiting rounds (cut lengths list))

-- the same of items of any type (proofs/Gathered.antt: `joined_waiting-is`)
abbrev pub joined_waiting : {A : Type 0} → List ℕ → List ℕ → List A → List A
joined_waiting [] lengths list = []
joined_waiting (round ∷ rounds) [] list = []
joined_waiting (zero ∷ rounds) (count ∷ lengths) list = take count list ++ joined_waiting rounds lengths (drop count list)
joined_waiting (suc round ∷ rounds) (count ∷ lengths) list = joined_waiting rounds lengths (drop count list)

-- an array starts with a list, as many as size says
pub record Holds {A : Type 0} (whole array : List A) (size : ℕ) : Type 0 where
  pub within : size ≤ length array
  pub front : take size array ≡ whole
