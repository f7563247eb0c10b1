-- Stamps taken in pairs: how many there are, each of them, and what it means that no pair fails to rise.
use Prim.Native.Nat.{ℕ, zero, suc, ◌-◌, ◌<◌}
use native.Mathlib.Omega.{arith}
use mathlib.Core.Path.{◌≡◌, refl, ap, sym, ◌∙◌}
use mathlib.Core.Bool.{false}
use mathlib.Core.List.{List, [], ◌∷◌}
use lib.Dec.{ltb}
use lib.ListN.{length, get_or}
use borrow.Author.Tests.{ltb-true, lt-ltb, not-false}
use Rattle.laws.specs.Search.{first, any}
use Rattle.laws.proofs.Search.{ltb-suc, any-first}
use Rattle.laws.proofs.Bools.{neither}
use Rattle.trace.specs.Trace.{pairs, not_above, bad_stamp, Rising}

pub pair-count : (stamps : List ℕ) → length (pairs stamps) ≡ length stamps - 1
pair-count [] = refl
pair-count (stamp ∷ []) = refl
pair-count (stamp ∷ next ∷ stamps) = ap suc (pair-count (next ∷ stamps)) ∙ omega arith

pub pair-at : (stamps : List ℕ) (i : ℕ) → suc i < length stamps
    → get_or (pairs stamps) i (0, 0) ≡ (get_or stamps i 0, get_or stamps (suc i) 0)
pair-at [] i within = absurd (omega arith)
pair-at (stamp ∷ []) i within = absurd (omega arith)
pair-at (stamp ∷ next ∷ stamps) zero within = refl
pair-at (stamp ∷ next ∷ stamps) (suc i) within = pair-at (next ∷ stamps) i (omega arith)

-- a pair fails to rise exactly where its later stamp's place is in the trace
pub bad-within : (stamps : List ℕ) → any not_above (pairs stamps) ≡ ltb (bad_stamp stamps) (length stamps)
bad-within [] = refl
bad-within (stamp ∷ stamps) =
    let counted : length (pairs (stamp ∷ stamps)) ≡ length stamps = pair-count (stamp ∷ stamps) ∙ omega arith in
    any-first not_above (pairs (stamp ∷ stamps))
    ∙ ap (ltb (first not_above (pairs (stamp ∷ stamps)))) counted
    ∙ sym (ltb-suc (first not_above (pairs (stamp ∷ stamps))) (length stamps))

-- stamps that rise have no such pair, and the other way round
pub rising : (stamps : List ℕ) → any not_above (pairs stamps) ≡ false → Rising stamps
rising [] none = record { above = λ i within. absurd (omega arith) }
rising (stamp ∷ []) none = record { above = λ i within. absurd (omega arith) }
rising (stamp ∷ next ∷ stamps) none =
    let two = neither (not_above (stamp, next)) (any not_above (pairs (next ∷ stamps))) none in
    let later = rising (next ∷ stamps) two.1 in
    record { above = λ i. first-or i (ltb-true stamp next (not-false (ltb stamp next) two.0)) later }
  where
    first-or : (i : ℕ) → stamp < next → Rising (next ∷ stamps) → suc i < length (stamp ∷ next ∷ stamps)
        → get_or (stamp ∷ next ∷ stamps) i 0 < get_or (stamp ∷ next ∷ stamps) (suc i) 0
    first-or zero less later within = less
    first-or (suc i) less later within = later.above i (omega arith)

pub rising-back : (stamps : List ℕ) → Rising stamps → any not_above (pairs stamps) ≡ false
rising-back [] rises = refl
rising-back (stamp ∷ []) rises = refl
rising-back (stamp ∷ next ∷ stamps) rises =
    let less : stamp < next = rises.above 0 (omega arith) in
    rw (lt-ltb stamp next less)
    (rising-back (next ∷ stamps) (record { above = λ i within. rises.above (suc i) (omega arith) }))
