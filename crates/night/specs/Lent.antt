-- What a caller sees of a night over what it lends, for its contract.
use Rattle.std.specs.Prelude.{ℕ, zero, suc, ◌≤◌, ◌≡◌, List, map, length, get_or, set}
use Rattle.laws.specs.Buffer.{filled}
use Rattle.usi.specs.declared.Usi.{Usi}
use Rattle.usi.specs.Module.{power_up}
use Rattle.arbitration_rules.specs.Reply.{Request, messages_of}
use Rattle.night_rules.specs.Different.{different, round_of}
use Rattle.night_rules.specs.Night.{night_refusal, rounds_counted, rounds_after, table_after}
use Rattle.night.specs.declared.Reply.{Reply}
use Rattle.night.specs.declared.lent.Ended.{Ended}

-- What it promises, of the slice of rounds and the table at its entry and at its exit: the first refusal that applies,
-- or none; how many rounds there were; each message's round, and its module as that round left it. The rest of both
-- stays, and at a refusal all of both.
-- It follows that there are as many rounds as different messages, and that each round carries the next larger of
-- them, from the least to the largest, so that equal messages finish together.
pub record Nights (request : Request) (rounds : List ℕ) (table : List Usi) (rounds_now : List ℕ) (table_now : List Usi)
    (reply : Reply) : Type 0
  where
    pub refuses : reply.refusal ≡ night_refusal request (length rounds) (length table)
    pub counts : reply.count ≡ rounds_counted request reply.refusal table
    pub rounded : rounds_now ≡ rounds_after request reply.refusal table rounds
    pub stepped : table_now ≡ table_after request reply.refusal table
    pub different_rounds : reply.refusal.number ≡ 0 → reply.count ≡ length (different (messages_of request))
    pub next_larger : reply.refusal.number ≡ 0
        → rounds_now ≡ filled (map (round_of (messages_of request)) (messages_of request)) rounds

-- the first so many modules put into a table, one after the other
abbrev pub placed : ℕ → List Usi → List Usi → List Usi
placed zero modules table = table
placed (suc count) modules table = set (placed count modules table) count (get_or modules count (power_up 0 0))

-- for contracts inside the crate: what is to be put into a table of so many entries, whatever it holds
pub record Settles (request : Request) (table_room : ℕ) (rounds rounds_now : List ℕ) (ended : Ended) : Type 0 where
  pub within : ended.entries ≤ table_room
  pub leaves : (table : List Usi) → length table ≡ table_room
      → Nights request rounds table rounds_now (placed ended.entries ended.modules table) ended.reply
