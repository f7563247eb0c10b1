-- A night for callers in C or Rust: what they lend, and what is returned, one 64-bit number and two tables of an entry
-- for each message.
use Rattle.std.specs.Prelude.{ℕ, ◌+◌, ◌*◌, ◌^◌, cond, List, map, eqb, length, take, replicate}
use Rattle.usi.specs.declared.Usi.{Usi}
use Rattle.usi.specs.Module.{power_up}
use Rattle.laws.specs.Buffer.{filled}
use Rattle.laws.specs.declared.Refusal.{Refusal}
use Rattle.arbitration_rules.specs.Limits.{max_masters}
use Rattle.arbitration_rules.specs.Reply.{Request}
use Rattle.night_rules.specs.Night.{night_refusal, night_for, rounds_counted, rounds_after}
use Rattle.export.specs.Packed.{packed}

-- what is lent: what is asked, and the two tables
pub record Lent : Type 0 where
  pub request : Request
  pub rounds : List ℕ
  pub modules : List ℕ

-- what is returned: the answer, and the tables
pub record Returned : Type 0 where
  pub answer : ℕ
  pub rounds : List ℕ
  pub modules : List ℕ

-- both, of the slices one by one
abbrev pub lent : Request → List ℕ → List ℕ → Lent
lent request rounds modules = record { request = request; rounds = rounds; modules = modules }

abbrev pub gave : ℕ → List ℕ → List ℕ → Returned
gave answer rounds modules = record { answer = answer; rounds = rounds; modules = modules }

-- the first of 12, 13, 14, 15, 43, 16 and 8 that applies
abbrev pub refusal_of : Lent → Refusal
refusal_of lent = night_refusal lent.request (length lent.rounds) (length lent.modules)

-- the modules before the first round
abbrev pub powered_up : List Usi
powered_up = replicate max_masters (power_up 0 0)

-- the reply as a number. Byte 0: refusal; bytes 1 and 2: place; from byte 3 on how many rounds there were
abbrev pub packed_night : Refusal → ℕ → ℕ
packed_night found count = found.number + 256 * found.place + 256 ^ 3 * count

-- the table of modules after it, its rest staying: of each message as its own round left it; at a refusal all stays
unfoldable pub modules_after : Request → Refusal → List ℕ → List ℕ
modules_after request found table =
    cond (eqb found.number 0)
    (filled (map packed (take (length request.counts) (night_for request powered_up).table)) table) table

unfoldable pub returned : Lent → Returned
returned lent =
    let found = refusal_of lent in
    record {
      answer = packed_night found (rounds_counted lent.request found powered_up);
      rounds = rounds_after lent.request found powered_up lent.rounds;
      modules = modules_after lent.request found lent.modules;
    }
