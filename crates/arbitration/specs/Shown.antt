-- What a caller sees of an arbitration, for its contract.
use Rattle.std.specs.Prelude.{ℕ, ◌+◌, ◌≡◌, cond, false, length, take, replicate}
use mathlib.Core.List.{List, map, zip_with}
use Rattle.bits.specs.Positions.{on}
use Rattle.laws.specs.declared.Refusal.{Refusal}
use Rattle.laws.specs.Refusals.{refused_at, none}
use Rattle.laws.specs.Search.{any}
use Rattle.usi_registers.specs.Registers.{USIAL, USISTTIFG, USIIFG}
use Rattle.usi.specs.declared.Usi.{Usi}
use Rattle.arbitration_rules.specs.declared.Arbitrated.{Arbitrated}
use Rattle.arbitration_rules.specs.declared.Seat.{Seat}
use Rattle.arbitration_rules.specs.Outcome.{Fate, Outcome, least, outcome, level_count, undecided}
use Rattle.arbitration_rules.specs.Reply.{Request, messages_of, bad_count, bad_lengths, reads, bad_acknowledges, short_slice}
use Rattle.arbitration_rules.specs.Reply.{arbitrated, table_after, carried_after, levels_after}

-- the fate of a master: whether it is still in, its position, and its AL
abbrev pub fate_of : Usi → Seat → Fate
fate_of usi seat =
    record {
      contending = seat.contending;
      position = seat.position;
      arbitration_lost = on usi.usictl1 USIAL;
    }

-- the slices that an arbitration is lent: the table of modules, and the buffers of the carried bytes and of the levels
pub record Lent : Type 0 where
  pub table : List Usi
  pub carried : List ℕ
  pub levels : List ℕ

-- what demand 3 compares, as a reply and the slices show it: k, the k bytes, the 5 + 18k levels and three for each
-- restart between them, and the fates of the masters that have a message
unfoldable pub shown : List (List ℕ) → Arbitrated → Lent → Outcome
shown messages reply lent =
    record {
      count = reply.count;
      carried = take reply.count lent.carried;
      levels = take (level_count (take reply.count (least messages))) lent.levels;
      fates = zip_with fate_of (take (length messages) lent.table) reply.seats;
    }

-- what the writes of each master that has a message cleared, and what demand 3 adds of that (02: Ask 12): STTIFG and
-- IFG, never AL or STP
abbrev pub cleared_in : ℕ → Arbitrated → List ℕ
cleared_in masters reply = map (λ (seat : Seat). seat.cleared) (take masters reply.seats)

abbrev pub all_cleared : ℕ → List ℕ
all_cleared masters = replicate masters (USISTTIFG + USIIFG)

-- where none of 12, 13, 14, 15 and 8 applies, the reply is refused exactly when 16 applies
abbrev pub OnlyUndecided : Request → Lent → Refusal → Type 0
OnlyUndecided request lent found =
    bad_count request ≡ false → bad_lengths request ≡ false → any reads (messages_of request) ≡ false
    → bad_acknowledges request ≡ false
    → short_slice request (length lent.table) (length lent.carried) (length lent.levels) ≡ false
    → found ≡ cond (undecided (messages_of request) request.acknowledges) (refused_at 16 0) none

-- What an arbitration promises. The reply is that of 01's steps 1 to 4, or the first refusal that applies; each lent
-- slice holds what the run gives, and its rest stays, or at a refusal all of it. What a run shows is what follows from
-- messages and acknowledges alone (01: demand 3); the writes of each master cleared STTIFG and IFG (02: Ask 12); and
-- what no other refusal stops is refused exactly when 16 applies: the least message's first difference from another is at
-- an ending of either one, and every byte before it is acknowledged (02: Ask 4).
pub record Arbitrates (request : Request) (entry exit : Lent) (reply : Arbitrated) : Type 0 where
  pub replies : reply
      ≡ arbitrated request (length entry.table) (length entry.carried) (length entry.levels)
  pub stepped : exit.table ≡ table_after request reply.refusal entry.table
  pub carried : exit.carried ≡ carried_after request reply.refusal entry.carried
  pub recorded : exit.levels ≡ levels_after request reply.refusal entry.levels
  pub follows : reply.refusal.number ≡ 0
      → shown (messages_of request) reply exit ≡ outcome (messages_of request) request.acknowledges
  pub clears : reply.refusal.number ≡ 0
      → cleared_in (length request.counts) reply ≡ all_cleared (length request.counts)
  pub refuses : OnlyUndecided request entry reply.refusal
