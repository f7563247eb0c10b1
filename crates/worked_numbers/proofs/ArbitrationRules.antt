-- Document 01's refusals of an arbitration, one line each, as arbitrate answers them, and its limits; messages have
-- one part each.
use mathlib.Core.Path.{◌≡◌, refl}
use mathlib.Core.List.{[], ◌∷◌, ◌++◌}
use Prim.Native.Nat.{ℕ}
use lib.ListN.{replicate}
use Rattle.laws.specs.Refusals.{none}
use Rattle.usi.specs.declared.Usi.{Usi}
use Rattle.arbitration_rules.specs.Reply.{arbitrated, table_after}
use Rattle.arbitration_rules.proofs.Single.{single}
use Rattle.arbitration_checks.specs.declared.order.Least.{Least}
use Rattle.arbitration_checks.specs.Order.{least_of}
use Rattle.worked_numbers.proofs.Computed as computed
use Rattle.worked_numbers.proofs.Worked.{answer, stopped, winner, in-seat, no-seat}

-- 12: no message, or more than sixteen; then nothing else is read
pub refuses-12 : (arbitrated (single [] [] []) 0 0 0 ≡ stopped 12 0)
    × (arbitrated (single (0x91 ∷ []) (replicate 17 0) (2 ∷ [])) 0 0 0 ≡ stopped 12 0)
unfolding computed.arbitrated
refuses-12 = (refl, refl)

-- 13: a message of 0 or over 64 bytes, at the first such; else lengths that don't sum to the bytes, at their count
pub refuses-13 : (arbitrated (single (0x91 ∷ []) (1 ∷ 0 ∷ 65 ∷ []) []) 0 0 0 ≡ stopped 13 1)
    × (arbitrated (single (0x91 ∷ []) (1 ∷ 65 ∷ []) []) 0 0 0 ≡ stopped 13 1)
    × (arbitrated (single (0x91 ∷ []) (1 ∷ 1 ∷ []) []) 0 0 0 ≡ stopped 13 2)
    × (arbitrated (single (0x91 ∷ 0x91 ∷ []) (1 ∷ []) []) 0 0 0 ≡ stopped 13 1)
unfolding computed.arbitrated
refuses-13 = (refl, refl, refl, refl)

-- 14: a first byte that is odd, at the first such message
pub refuses-14 : (arbitrated (single (0x90 ∷ 0x91 ∷ 0x91 ∷ []) (1 ∷ 1 ∷ 1 ∷ []) []) 0 0 0 ≡ stopped 14 1)
unfolding computed.arbitrated
refuses-14 = refl

-- 15: not as many acknowledges as the longest message has bytes, or one above 1
pub refuses-15 : (arbitrated (single (0x90 ∷ 0x90 ∷ 0 ∷ []) (1 ∷ 2 ∷ []) (0 ∷ [])) 0 0 0 ≡ stopped 15 0)
    × (arbitrated (single (0x90 ∷ 0x90 ∷ 0 ∷ []) (1 ∷ 2 ∷ []) (0 ∷ 0 ∷ 0 ∷ [])) 0 0 0 ≡ stopped 15 0)
    × (arbitrated (single (0x90 ∷ 0x90 ∷ 0 ∷ []) (1 ∷ 2 ∷ []) (0 ∷ 2 ∷ [])) 0 0 0 ≡ stopped 15 0)
unfolding computed.arbitrated
refuses-15 = (refl, refl, refl)

-- 16 before 8 (P10); 8: an entry of the table for each message, room for k bytes and for 5 + 18k levels
pub refuses-8 : (arbitrated (single (0x90 ∷ 0x90 ∷ []) (1 ∷ 1 ∷ []) (0 ∷ [])) 1 1 23 ≡ stopped 8 0)
    × (arbitrated (single (0x90 ∷ []) (1 ∷ []) (0 ∷ [])) 1 0 23 ≡ stopped 8 0)
    × (arbitrated (single (0x90 ∷ []) (1 ∷ []) (0 ∷ [])) 1 1 22 ≡ stopped 8 0)
    × (arbitrated (single (0x90 ∷ []) (1 ∷ []) (0 ∷ [])) 1 1 23 ≡ answer 1 (in-seat ∷ replicate 15 no-seat))
unfolding computed.arbitrated
refuses-8 = (refl, refl, refl, refl)

-- sixteen messages of one byte; one message of 64 bytes, the first of which nobody acknowledges
pub takes-sixteen : arbitrated (single (replicate 16 0x90) (replicate 16 1) (0 ∷ [])) 16 1 23
    ≡ answer 1 (replicate 16 in-seat)
unfolding computed.arbitrated
takes-sixteen = refl

pub takes-sixteen-table : (held past : Usi)
    → table_after (single (replicate 16 0x90) (replicate 16 1) (0 ∷ [])) none (replicate 16 held ++ past ∷ [])
    ≡ replicate 16 winner ++ past ∷ []
unfolding computed.table_after
takes-sixteen-table held past = refl

pub takes-64 : arbitrated (single (replicate 64 0x90) (64 ∷ []) (1 ∷ replicate 63 0)) 1 1 23
    ≡ answer 1 (in-seat ∷ replicate 15 no-seat)
unfolding computed.arbitrated
takes-64 = refl

-- the least message, with a comparison for each but the first: P8's second, a beginning of another, the first of equal
-- ones; 0 and 0 where 13 applies
abbrev pub found_at : ℕ → ℕ → Least
found_at index comparisons = record { index = index; comparisons = comparisons }

pub least-messages : (least_of (single (0x90 ∷ 0x12 ∷ 0x90 ∷ 0x0f ∷ []) (2 ∷ 2 ∷ []) []) ≡ found_at 1 1)
    × (least_of (single (0x90 ∷ 0x12 ∷ 0x90 ∷ []) (2 ∷ 1 ∷ []) []) ≡ found_at 1 1)
    × (least_of (single (0x92 ∷ 0x90 ∷ 0x90 ∷ []) (1 ∷ 1 ∷ 1 ∷ []) []) ≡ found_at 1 2)
    × (least_of (single (0x92 ∷ 0x90 ∷ 0x90 ∷ []) (1 ∷ 4294967295 ∷ 1 ∷ []) []) ≡ found_at 0 0)
unfolding computed.least
least-messages = (refl, refl, refl, refl)
