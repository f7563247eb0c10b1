-- Worked captures, each of the reply and of both lent slices.
use mathlib.Core.Path.{◌≡◌, refl}
use mathlib.Core.Bool.{true}
use mathlib.Core.List.{List, [], ◌∷◌}
use Prim.Native.Nat.{ℕ, zero, suc}
use lib.ListN.{replicate}
use Rattle.std.specs.Prelude.{Ok, Err}
use Rattle.laws.specs.Refusals.{refused_at}
use Rattle.decode.specs.Decode.{takes, next, cut, lists}
use Rattle.decode.specs.DecodeReply.{read_as, decoded}
use Rattle.levels.specs.Levels.{starts, stops}
use Rattle.trace_thin.specs.ThinReply.{thin_answer, stamps_after, levels_after}

-- a START seen six times leaves two samples of six: the first, and the one at which SDA fell
abbrev stamps : List ℕ
stamps = 10 ∷ 11 ∷ 12 ∷ 13 ∷ 14 ∷ 15 ∷ []

abbrev levels : List ℕ
levels = 3 ∷ 3 ∷ 3 ∷ 1 ∷ 1 ∷ 1 ∷ []

pub start-thinned : (thin_answer stamps levels 3 3 ≡ Ok 2)
    × (stamps_after (Ok 2) stamps levels (7 ∷ 8 ∷ 9 ∷ []) ≡ 10 ∷ 13 ∷ 9 ∷ [])
    × (levels_after (Ok 2) stamps levels (7 ∷ 8 ∷ 9 ∷ []) ≡ 3 ∷ 1 ∷ 9 ∷ [])
unfolding thin_answer
start-thinned = (refl, refl, refl)

-- decode finds the START in both
pub start-found : (decoded stamps levels 6 ≡ Ok (read_as 1 true 0 0)) × (decoded (10 ∷ 13 ∷ []) (3 ∷ 1 ∷ []) 6 ≡ Ok (read_as 1 true 0 0))
unfolding decoded lists starts stops takes next cut
start-found = (refl, refl)

-- a sample of the level before it is dropped, however often the level comes back
pub back_and_forth :
    levels_after (Ok 4) (1 ∷ 2 ∷ 3 ∷ 4 ∷ 5 ∷ 6 ∷ []) (0 ∷ 1 ∷ 1 ∷ 0 ∷ 0 ∷ 1 ∷ []) (replicate 4 9) ≡ 0 ∷ 1 ∷ 0 ∷ 1 ∷ []
back_and_forth = refl

-- so many stamps from a number on
abbrev count_up : ℕ → ℕ → List ℕ
count_up from zero = []
count_up from (suc count) = from ∷ count_up (suc from) count

-- 5,000 samples of which one is left are taken; 4,097 that all change are 6
abbrev alternating : ℕ → List ℕ
alternating zero = []
alternating (suc zero) = 3 ∷ []
alternating (suc (suc count)) = 3 ∷ 2 ∷ alternating count

pub long-taken : thin_answer (count_up 0 5000) (replicate 5000 3) 1 1 ≡ Ok 1
unfolding thin_answer
long-taken = refl

pub most-left : (thin_answer (count_up 0 4096) (alternating 4096) 4096 4096 ≡ Ok 4096)
    × (thin_answer (count_up 0 4097) (alternating 4097) 4097 4097 ≡ Err (refused_at 6 0))
unfolding thin_answer
most-left = (refl, refl)

-- the order of refusals: 5, 4 with its place, 7 with its place, 6, 8; the empty capture is taken
pub refused-in-order : (thin_answer (1 ∷ 1 ∷ []) (4 ∷ []) 0 0 ≡ Err (refused_at 5 0))
    × (thin_answer (1 ∷ 1 ∷ []) (3 ∷ 4 ∷ []) 0 0 ≡ Err (refused_at 4 1))
    × (thin_answer (1 ∷ 1 ∷ []) (3 ∷ 3 ∷ []) 0 0 ≡ Err (refused_at 7 1))
    × (thin_answer (count_up 0 4097) (alternating 4097) 0 0 ≡ Err (refused_at 6 0))
    × (thin_answer (1 ∷ 2 ∷ []) (3 ∷ 2 ∷ []) 1 2 ≡ Err (refused_at 8 0))
    × (thin_answer (1 ∷ 2 ∷ []) (3 ∷ 2 ∷ []) 2 1 ≡ Err (refused_at 8 0))
    × (thin_answer [] [] 0 0 ≡ Ok 0)
unfolding thin_answer
refused-in-order = (refl, refl, refl, refl, refl, refl, refl)

-- a refused call leaves both slices as they were
pub refusal-leaves : (stamps_after (Err (refused_at 8 0)) (1 ∷ 2 ∷ []) (3 ∷ 2 ∷ []) (7 ∷ []) ≡ 7 ∷ [])
    × (levels_after (Err (refused_at 8 0)) (1 ∷ 2 ∷ []) (3 ∷ 2 ∷ []) (7 ∷ []) ≡ 7 ∷ [])
refusal-leaves = (refl, refl)
