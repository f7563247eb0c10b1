-- The gaps of a trace, from sample to sample.
use Rattle.std.specs.Prelude.{Bool, true, cond, ◌&&◌, List, [], ◌∷◌, ℕ, ◌+◌, ◌-◌, ◌*◌, ◌/◌, eqb, ltb, length, get_or, drop}
use Rattle.decode.specs.declared.Decoder.{Decoder}
use Rattle.decode.specs.Decode.{idle, next}
use Rattle.trace_gaps.specs.declared.Tally.{Tally}

-- of so many samples the gaps are judged
abbrev pub max_gaps : ℕ
max_gaps = 536870912

-- whether each stamp is so far from the one before it, the first from `last`
unfoldable pub all_apart : ℕ → ℕ → List ℕ → Bool
all_apart gap last [] = true
all_apart gap last (stamp ∷ stamps) = eqb (stamp - last) gap && all_apart gap stamp stamps

-- the gap of the first two samples, where all have it
unfoldable pub even_gap : List ℕ → ℕ
even_gap stamps =
    cond (ltb (length stamps) 2) 0
    (cond (all_apart (get_or stamps 1 0 - get_or stamps 0 0) (get_or stamps 0 0) (drop 1 stamps))
    (get_or stamps 1 0 - get_or stamps 0 0)
    0)

-- the gaps inside frames: those to a sample before which a frame is open
unfoldable pub gaps_inside : Decoder → ℕ → List ℕ → List ℕ → List ℕ
gaps_inside decoder last [] levels = []
gaps_inside decoder last (stamp ∷ stamps) [] = []
gaps_inside decoder last (stamp ∷ stamps) (level ∷ levels) =
    cond decoder.framed
    ((stamp - last) ∷ gaps_inside (next decoder level) stamp stamps levels)
    (gaps_inside (next decoder level) stamp stamps levels)

abbrev pub inside : List ℕ → List ℕ → List ℕ
inside stamps levels = gaps_inside idle 0 stamps levels

-- those that are not above a limit
unfoldable pub up_to : ℕ → List ℕ → List ℕ
up_to limit [] = []
up_to limit (gap ∷ gaps) = cond (ltb limit gap) (up_to limit gaps) (gap ∷ up_to limit gaps)

-- how long they are together
unfoldable pub total : List ℕ → ℕ
total [] = 0
total (gap ∷ gaps) = gap + total gaps

abbrev pub tally_of : List ℕ → Tally
tally_of gaps = record { count = length gaps; sum = total gaps }

-- a tally with one gap more, where it lies inside a frame and is not above a limit
unfoldable pub with_gap : Bool → ℕ → ℕ → Tally → Tally
with_gap framed gap limit tally =
    cond framed
    (cond (ltb limit gap) tally (record { count = tally.count + 1; sum = tally.sum + gap }))
    tally

-- the average, rounded down
unfoldable pub average : Tally → ℕ
average tally = cond (eqb tally.count 0) 0 (tally.sum / tally.count)

-- four times the average
unfoldable pub fourfold : Tally → ℕ
fourfold tally = cond (eqb tally.count 0) 0 (4 * tally.sum / tally.count)

-- the usual gap inside frames: their average, without those above four times the average of all
unfoldable pub usual_gap : List ℕ → List ℕ → ℕ
usual_gap stamps levels =
    cond (ltb max_gaps (length stamps)) 0
    (average (tally_of (up_to (fourfold (tally_of (inside stamps levels))) (inside stamps levels))))
