-- Document 02's request 14, the night: nights worked whole by their rounds, and its refusals, one line each, as the
-- reply has them; messages have one part each.
use mathlib.Core.Path.{◌≡◌, refl}
use mathlib.Core.List.{List, [], ◌∷◌}
use Prim.Native.Nat.{ℕ}
use Rattle.laws.specs.Refusals.{none, refused_at}
use Rattle.usi.specs.declared.Usi.{Usi}
use Rattle.arbitration_rules.specs.Reply.{Request}
use Rattle.arbitration_rules.proofs.Single.{single}
use Rattle.night_rules.specs.Night.{night_refusal, rounds_counted, rounds_after, table_after}
use Rattle.worked_numbers.proofs.Computed as computed
use Rattle.worked_numbers.proofs.Worked.{winner}

-- ---- 90 12, 90 0F and 90 12 again, acknowledges 0 0: P8's second message is carried first, then the other two together
abbrev three : Request
three = single (0x90 ∷ 0x12 ∷ 0x90 ∷ 0x0f ∷ 0x90 ∷ 0x12 ∷ []) (2 ∷ 2 ∷ 2 ∷ []) (0 ∷ 0 ∷ [])

-- room for three rounds and three modules is enough, and no less
pub night-room : (night_refusal three 3 3 ≡ none)
    × (night_refusal three 2 3 ≡ refused_at 8 0)
    × (night_refusal three 3 2 ≡ refused_at 8 0)
unfolding computed.night_refusal
night-room = (refl, refl, refl)

-- two rounds
pub night-counts : (a b c d : Usi) → rounds_counted three none (a ∷ b ∷ c ∷ d ∷ []) ≡ 2
unfolding computed.rounds_counted
night-counts a b c d = refl

-- each message's round, and the rest of the slice stays
pub night-numbers : (a b c d : Usi)
    → rounds_after three none (a ∷ b ∷ c ∷ d ∷ []) (7 ∷ 7 ∷ 7 ∷ 7 ∷ []) ≡ 2 ∷ 1 ∷ 2 ∷ 7 ∷ []
unfolding computed.rounds_after
night-numbers a b c d = refl

-- each message's module as its own round left it, and the rest of the table stays
pub night-modules : (a b c d : Usi)
    → table_after three none (a ∷ b ∷ c ∷ d ∷ []) ≡ winner ∷ winner ∷ winner ∷ d ∷ []
unfolding computed.night_table_after
night-modules a b c d = refl

-- a refused night counts no round, and leaves slice and table as they were
pub night-refused : (table : List Usi) (buffer : List ℕ)
    → (rounds_counted three (refused_at 8 0) table ≡ 0)
    × (rounds_after three (refused_at 8 0) table buffer ≡ buffer)
    × (table_after three (refused_at 8 0) table ≡ table)
unfolding computed.rounds_counted computed.rounds_after computed.night_table_after
night-refused table buffer = (refl, refl, refl)

-- ---- 43: an acknowledge 1 anywhere, also past the first message's bytes; before 16 and 8
pub night-refuses-43 : (rounds_room table_room : ℕ)
    → (night_refusal (single (0x90 ∷ 0x92 ∷ 0x34 ∷ []) (1 ∷ 2 ∷ []) (0 ∷ 1 ∷ [])) rounds_room table_room ≡ refused_at 43 0)
    × (night_refusal (single (0x90 ∷ 0x90 ∷ 0x34 ∷ []) (1 ∷ 2 ∷ []) (1 ∷ 0 ∷ [])) rounds_room table_room ≡ refused_at 43 0)
unfolding computed.night_refusal
night-refuses-43 rounds_room table_room = (refl, refl)

-- ---- 16: P12's messages, of which the least is neither of the two that differ at an ending; before 8
pub night-refuses-16 : (rounds_room table_room : ℕ)
    → night_refusal (single (0x90 ∷ 0x90 ∷ 0x00 ∷ 0x50 ∷ []) (1 ∷ 2 ∷ 1 ∷ []) (0 ∷ 0 ∷ [])) rounds_room table_room
    ≡ refused_at 16 0
unfolding computed.night_refusal
night-refuses-16 rounds_room table_room = refl
