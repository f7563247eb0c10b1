-- What a caller sees of a night over a table by value, for its contract.
use Rattle.std.specs.Prelude.{ℕ, ◌≡◌, List, map, length, replicate}
use Rattle.laws.specs.Buffer.{filled}
use Rattle.usi.specs.declared.Usi.{Usi}
use Rattle.arbitration_rules.specs.Limits.{max_masters}
use Rattle.arbitration_rules.specs.Reply.{Request, messages_of}
use Rattle.night_rules.specs.Different.{different, round_of}
use Rattle.night_rules.specs.Night.{night_refusal, rounds_counted, rounds_after, table_after}
use Rattle.night.specs.declared.NightRun.{NightRun}

-- What it promises: the first refusal that applies, or none; how many rounds there were; each message's round, and 0
-- past the messages; the table with each message's module as its own round left it. At a refusal no round, and the
-- table as it was.
-- It follows that there are as many rounds as different messages, and that each round carries the next larger of
-- them, from the least to the largest, so that equal messages finish together.
pub record Rehearses (request : Request) (rounds_room table_room : ℕ) (modules : List Usi) (night : NightRun) : Type 0
  where
    pub refuses : night.refusal ≡ night_refusal request rounds_room table_room
    pub counts : night.count ≡ rounds_counted request night.refusal modules
    pub rounds : night.rounds ≡ rounds_after request night.refusal modules (replicate max_masters 0)
    pub stepped : night.modules ≡ table_after request night.refusal modules
    pub different_rounds : night.refusal.number ≡ 0 → night.count ≡ length (different (messages_of request))
    pub next_larger : night.refusal.number ≡ 0
        → night.rounds
        ≡ filled (map (round_of (messages_of request)) (messages_of request)) (replicate max_masters 0)
