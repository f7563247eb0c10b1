-- Which board a master is. The boards that are not silent are the masters, in the order of their numbers.
use Rattle.std.specs.Prelude.{Bool, true, false, List, [], ◌∷◌, ℕ, zero, suc, ◌+◌, ◌-◌}

-- the master-th board that is not silent; where there is none, how many boards there are
unfoldable pub board_of : List Bool → ℕ → ℕ
board_of [] master = 0
board_of (true ∷ others) master = suc (board_of others master)
board_of (false ∷ others) zero = 0
board_of (false ∷ others) (suc master) = suc (board_of others master)

-- a board counts as a master where it is not silent
abbrev pub count_of : Bool → ℕ
count_of true = 0
count_of false = 1

-- how many boards before a board are not silent
unfoldable pub master_of : List Bool → ℕ → ℕ
master_of silent zero = 0
master_of [] (suc board) = 0
master_of (one ∷ others) (suc board) = count_of one + master_of others board

-- how many masters there are
unfoldable pub masters : List Bool → ℕ
masters [] = 0
masters (one ∷ others) = count_of one + masters others

-- the masters that are left to pass, after a board
abbrev pub left_after : Bool → ℕ → ℕ
left_after true left = left
left_after false left = left - 1
