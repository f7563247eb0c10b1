-- Document 02's request 4, messages in parts with a repeated START between two: arbitrations worked whole, and its
-- refusals, one line each, as arbitrate answers them.
use mathlib.Core.Path.{◌≡◌, refl}
use mathlib.Core.Bool.{false}
use mathlib.Core.List.{List, [], ◌∷◌, ◌++◌}
use Prim.Native.Nat.{ℕ, ◌+◌, ◌*◌}
use lib.ListN.{length, replicate}
use Rattle.laws.specs.Refusals.{none, refused_at}
use Rattle.usi.specs.declared.Usi.{Usi}
use Rattle.encode.specs.Encode.{drawing}
use Rattle.arbitration_rules.specs.Reply.{Request, asked, arbitrated, table_after, carried_after, levels_after}
use Rattle.arbitration_checks.specs.Order.{least_of}
use Rattle.worked_numbers.proofs.Computed as computed
use Rattle.worked_numbers.proofs.Worked.{ended, winner, in-seat, lost-at, no-seat, answer, stopped}
use Rattle.worked_numbers.proofs.ArbitrationRules.{found_at}

-- ---- [02][04] and [06][04], acknowledges 0 0: carried 02 04; the second lost at position 5, in the first part, and
-- lets the restart pass. It ends with C0 4D 22 80 and USISRL 02; the other with C8 45 22 00 and FF
abbrev losing : Request
losing = asked (0x02 ∷ 0x04 ∷ 0x06 ∷ 0x04 ∷ []) (1 ∷ 1 ∷ 1 ∷ 1 ∷ []) (2 ∷ 2 ∷ []) (0 ∷ 0 ∷ [])

pub restart-loses : arbitrated losing 2 2 44 ≡ answer 2 (in-seat ∷ lost-at 5 ∷ replicate 14 no-seat)
unfolding computed.arbitrated
restart-loses = refl

pub restart-loses-table : (a b c : Usi) → table_after losing none (a ∷ b ∷ c ∷ [])
    ≡ winner ∷ ended 0xc0 0x4d 0x80 0x02 false false ∷ c ∷ []
unfolding computed.table_after
restart-loses-table a b c = refl

pub restart-loses-carried : carried_after losing none (7 ∷ 7 ∷ 7 ∷ []) ≡ 0x02 ∷ 0x04 ∷ 7 ∷ []
unfolding computed.carried_after
restart-loses-carried = refl

-- 5 + 18k + 3 levels: the restart is 2, 3, 1
abbrev restart_levels : List ℕ
restart_levels =
    3 ∷ 1 ∷ 0 ∷ 1 ∷ 0 ∷ 1 ∷ 0 ∷ 1 ∷ 0 ∷ 1 ∷ 0 ∷ 1 ∷ 0 ∷ 1 ∷ 2 ∷ 3 ∷ 0 ∷ 1 ∷ 0 ∷ 1
    ∷ 2 ∷ 3 ∷ 1 ∷ 0 ∷ 1 ∷ 0 ∷ 1 ∷ 0 ∷ 1 ∷ 0 ∷ 1 ∷ 0 ∷ 1 ∷ 2 ∷ 3 ∷ 0 ∷ 1 ∷ 0 ∷ 1 ∷ 0 ∷ 1 ∷ 0 ∷ 1 ∷ 3 ∷ []

pub restart-loses-levels : levels_after losing none (replicate 45 7) ≡ restart_levels ++ 7 ∷ []
unfolding computed.levels_after
restart-loses-levels = refl

pub restart-drawn : (drawing (512 ∷ 0x02 ∷ 513 ∷ 0x04 ∷ 514 ∷ []) ≡ restart_levels)
    × (length restart_levels ≡ 5 + 18 * 2 + 3)
unfolding computed.drawn
restart-drawn = (refl, refl)

-- one level less is 8
pub restart-room : arbitrated losing 2 2 43 ≡ stopped 8 0
unfolding computed.arbitrated
restart-room = refl

-- ---- [02][04][08] and [06][04][08]: who lost in the first part lets both restarts pass
abbrev losing-twice : Request
losing-twice =
    asked (0x02 ∷ 0x04 ∷ 0x08 ∷ 0x06 ∷ 0x04 ∷ 0x08 ∷ []) (replicate 6 1) (3 ∷ 3 ∷ []) (0 ∷ 0 ∷ 0 ∷ [])

pub restarts-twice : arbitrated losing-twice 2 3 65 ≡ answer 3 (in-seat ∷ lost-at 5 ∷ replicate 14 no-seat)
unfolding computed.arbitrated
restarts-twice = refl

pub restarts-twice-table : (a b : Usi) → table_after losing-twice none (a ∷ b ∷ [])
    ≡ winner ∷ ended 0xc0 0x4d 0x80 0x02 false false ∷ []
unfolding computed.table_after
restarts-twice-table a b = refl

-- ---- [02][04] and [02][06]: the second lost after the restart; positions count carried bytes only
abbrev losing-later : Request
losing-later = asked (0x02 ∷ 0x04 ∷ 0x02 ∷ 0x06 ∷ []) (1 ∷ 1 ∷ 1 ∷ 1 ∷ []) (2 ∷ 2 ∷ []) (0 ∷ 0 ∷ [])

pub loses-after-restart : arbitrated losing-later 2 2 44 ≡ answer 2 (in-seat ∷ lost-at 15 ∷ replicate 14 no-seat)
unfolding computed.arbitrated
loses-after-restart = refl

-- ---- [02][04] and [02 04] have the same bytes and differ: with acknowledges 0 0 refusal 16, whatever table and
-- buffers are, and they stay
abbrev parted : List ℕ → Request
parted acknowledges = asked (0x02 ∷ 0x04 ∷ 0x02 ∷ 0x04 ∷ []) (1 ∷ 1 ∷ 2 ∷ []) (2 ∷ 1 ∷ []) acknowledges

pub parts-differ : (table_room carried_room level_room : ℕ)
    → arbitrated (parted (0 ∷ 0 ∷ [])) table_room carried_room level_room ≡ stopped 16 0
unfolding computed.arbitrated
parts-differ table_room carried_room level_room = refl

pub parts-differ-table : (table : List Usi) → table_after (parted (0 ∷ 0 ∷ [])) (refused_at 16 0) table ≡ table
unfolding computed.table_after
parts-differ-table table = refl

pub parts-differ-buffers : (buffer : List ℕ)
    → (carried_after (parted (0 ∷ 0 ∷ [])) (refused_at 16 0) buffer ≡ buffer)
    × (levels_after (parted (0 ∷ 0 ∷ [])) (refused_at 16 0) buffer ≡ buffer)
unfolding computed.carried_after computed.levels_after
parts-differ-buffers buffer = (refl, refl)

-- with 1 0 a part's last byte is not acknowledged: carried 02, then a STOP and no restart, and both are in
pub part_cut : arbitrated (parted (1 ∷ 0 ∷ [])) 2 1 23 ≡ answer 1 (in-seat ∷ in-seat ∷ replicate 14 no-seat)
unfolding computed.arbitrated
part_cut = refl

pub part-cut-table : (a b : Usi) → table_after (parted (1 ∷ 0 ∷ [])) none (a ∷ b ∷ []) ≡ winner ∷ winner ∷ []
unfolding computed.table_after
part-cut-table a b = refl

pub part-cut-carried : carried_after (parted (1 ∷ 0 ∷ [])) none (7 ∷ 7 ∷ []) ≡ 0x02 ∷ 7 ∷ []
unfolding computed.carried_after
part-cut-carried = refl

pub part-cut-levels : levels_after (parted (1 ∷ 0 ∷ [])) none (replicate 24 7)
    ≡ 3 ∷ 1 ∷ 0 ∷ 1 ∷ 0 ∷ 1 ∷ 0 ∷ 1 ∷ 0 ∷ 1 ∷ 0 ∷ 1 ∷ 0 ∷ 1 ∷ 2 ∷ 3 ∷ 0 ∷ 1 ∷ 2 ∷ 3 ∷ 0 ∷ 1 ∷ 3 ∷ 7 ∷ []
unfolding computed.levels_after
part-cut-levels = refl

-- ---- 16: a restart against a STOP, [02][04] and [02]
pub refuses-restart-and-stop : (table_room carried_room level_room : ℕ)
    → arbitrated (asked (0x02 ∷ 0x04 ∷ 0x02 ∷ []) (1 ∷ 1 ∷ 1 ∷ []) (2 ∷ 1 ∷ []) (0 ∷ 0 ∷ [])) table_room carried_room
    level_room
    ≡ stopped 16 0
unfolding computed.arbitrated
refuses-restart-and-stop table_room carried_room level_room = refl

-- with [00] beside them both lose before that
pub loses-before-restart :
    arbitrated (asked (0x02 ∷ 0x04 ∷ 0x02 ∷ 0x00 ∷ []) (1 ∷ 1 ∷ 1 ∷ 1 ∷ []) (2 ∷ 1 ∷ 1 ∷ []) (0 ∷ 0 ∷ [])) 3 1 23
    ≡ answer 1 (lost-at 6 ∷ lost-at 6 ∷ in-seat ∷ replicate 13 no-seat)
unfolding computed.arbitrated
loses-before-restart = refl

-- ---- 13: an empty part, a message of no part, a message of over 64 bytes in its parts, at the first such
pub refuses-empty-part :
    (arbitrated (asked (0x02 ∷ 0x04 ∷ []) (1 ∷ 1 ∷ 0 ∷ []) (1 ∷ 2 ∷ []) []) 0 0 0 ≡ stopped 13 1)
    × (arbitrated (asked (0x02 ∷ 0x04 ∷ []) (0 ∷ 1 ∷ 1 ∷ []) (2 ∷ 1 ∷ []) []) 0 0 0 ≡ stopped 13 0)
unfolding computed.arbitrated
refuses-empty-part = (refl, refl)

pub refuses-no-part : arbitrated (asked (0x02 ∷ []) (1 ∷ []) (1 ∷ 0 ∷ []) []) 0 0 0 ≡ stopped 13 1
unfolding computed.arbitrated
refuses-no-part = refl

pub refuses-long-message : arbitrated (asked (replicate 65 0x02) (64 ∷ 1 ∷ []) (2 ∷ []) []) 0 0 0 ≡ stopped 13 0
unfolding computed.arbitrated
refuses-long-message = refl

-- else counts that don't sum to the parts, or parts that don't sum to the bytes, at the number of messages
pub refuses-sums : (arbitrated (asked (0x02 ∷ 0x04 ∷ []) (2 ∷ []) (1 ∷ 1 ∷ []) []) 0 0 0 ≡ stopped 13 2)
    × (arbitrated (asked (0x02 ∷ 0x04 ∷ []) (1 ∷ 1 ∷ []) (1 ∷ []) []) 0 0 0 ≡ stopped 13 1)
    × (arbitrated (asked (0x02 ∷ 0x04 ∷ []) (1 ∷ 2 ∷ []) (2 ∷ []) []) 0 0 0 ≡ stopped 13 1)
unfolding computed.arbitrated
refuses-sums = (refl, refl, refl)

-- 14: the first byte of a later part is odd; 15: an acknowledge for each byte, none for the restart
pub refuses-later-read : arbitrated (asked (0x02 ∷ 0x05 ∷ 0x02 ∷ 0x05 ∷ []) (2 ∷ 1 ∷ 1 ∷ []) (1 ∷ 2 ∷ []) []) 0 0 0
    ≡ stopped 14 1
unfolding computed.arbitrated
refuses-later-read = refl

pub refuses-restart-acknowledged :
    arbitrated (asked (0x02 ∷ 0x04 ∷ []) (1 ∷ 1 ∷ []) (2 ∷ []) (0 ∷ 0 ∷ 0 ∷ [])) 1 2 44 ≡ stopped 15 0
unfolding computed.arbitrated
refuses-restart-acknowledged = refl

-- ---- the least message: [02][04] comes before [02], and [02] before [02 00]
pub least-of-parts : (least_of (asked (0x02 ∷ 0x02 ∷ 0x04 ∷ []) (1 ∷ 1 ∷ 1 ∷ []) (1 ∷ 2 ∷ []) []) ≡ found_at 1 1)
    × (least_of (asked (0x02 ∷ 0x00 ∷ 0x02 ∷ []) (2 ∷ 1 ∷ []) (1 ∷ 1 ∷ []) []) ≡ found_at 1 1)
    × (least_of (asked (0x02 ∷ 0x00 ∷ 0x02 ∷ 0x04 ∷ []) (2 ∷ 1 ∷ 1 ∷ []) (1 ∷ 2 ∷ []) []) ≡ found_at 1 1)
unfolding computed.least
least-of-parts = (refl, refl, refl)
