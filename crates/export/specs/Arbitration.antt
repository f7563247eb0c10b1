-- An arbitration for callers in C or Rust: what they lend, and what is returned, one 64-bit number and two tables of
-- an entry for each message.
use Rattle.std.specs.Prelude.{ℕ, ◌+◌, ◌*◌, ◌/◌, ◌%◌, ◌^◌, ◌≡◌, Bool, cond, ◌||◌, eqb, ltb, length, take}
use mathlib.Core.List.{List, [], ◌∷◌, ◌++◌, map, zip_with}
use mir.Val.{bool_byte}
use Rattle.bits.specs.Positions.{is_set, on}
use Rattle.usi_registers.specs.Registers.{USIAL}
use Rattle.laws.specs.Buffer.{filled}
use Rattle.laws.specs.declared.Refusal.{Refusal}
use Rattle.laws.specs.Refusals.{check, given}
use Rattle.arbitration_rules.specs.declared.Arbitrated.{Arbitrated}
use Rattle.arbitration_rules.specs.declared.Seat.{Seat}
use Rattle.arbitration_rules.specs.Masters.{Master}
use Rattle.arbitration_rules.specs.Outcome.{Fate, Outcome, least, level_count, outcome}
use Rattle.arbitration_rules.specs.Reply.{Request, messages_of, request_checks, run_of, short_buffer, seat_of, refused}
use Rattle.arbitration_rules.specs.Reply.{answered}
use Rattle.arbitration_rules.specs.Run.{Bus}
use Rattle.arbitration_rules.specs.Cleared.{cleared_by}
use Rattle.export.specs.Packed.{packed, unpacked}

-- what is lent: what is asked, the two buffers and the two tables
pub record Lent : Type 0 where
  pub request : Request
  pub carried : List ℕ
  pub levels : List ℕ
  pub modules : List ℕ
  pub seats : List ℕ

-- what is returned: the answer, and the buffers and tables
pub record Returned : Type 0 where
  pub answer : ℕ
  pub carried : List ℕ
  pub levels : List ℕ
  pub modules : List ℕ
  pub seats : List ℕ

-- both, of the slices one by one
abbrev pub lent : Request → List ℕ → List ℕ → List ℕ → List ℕ → Lent
lent request carried levels modules seats =
    record { request = request; carried = carried; levels = levels; modules = modules; seats = seats }

abbrev pub gave : ℕ → List ℕ → List ℕ → List ℕ → List ℕ → Returned
gave answer carried levels modules seats =
    record { answer = answer; carried = carried; levels = levels; modules = modules; seats = seats }

-- 8: a lent slice is shorter than the reply needs, which has an entry in each table for each message
abbrev pub short_tables : ℕ → ℕ → ℕ → Bool
short_tables masters modules seats = ltb modules masters || ltb seats masters

abbrev pub cleared_of : Request → List ℕ
cleared_of request = cleared_by (messages_of request) request.acknowledges

-- the first of 12, 13, 14, 15, 16 and 8 that applies
unfoldable pub refusal_of : Lent → Refusal
refusal_of lent =
    given
    (request_checks lent.request
    ++ check 8
    (short_buffer (run_of lent.request) (length lent.carried) (length lent.levels)
    || short_tables (length lent.request.counts) (length lent.modules) (length lent.seats))
    ∷ [])

-- a seat as a number: 1 while it contends, from bit 1 on the flags that its writes cleared, from bit 5 on the position
abbrev pub packed_seat : Seat → ℕ
packed_seat seat = bool_byte seat.contending + 2 * seat.cleared + 32 * seat.position

-- the reply as a number. Byte 0: refusal; bytes 1 and 2: place; bytes 3 and 4: how many bytes were carried (01: k)
abbrev pub packed_reply : Arbitrated → ℕ
packed_reply reply = reply.refusal.number + 256 * reply.refusal.place + 256 ^ 3 * reply.count

-- a refused call leaves all that was lent as it was
abbrev pub untouched : Refusal → Lent → Returned
untouched found lent =
    record {
      answer = packed_reply (refused found);
      carried = lent.carried;
      levels = lent.levels;
      modules = lent.modules;
      seats = lent.seats;
    }

-- a run leaves in each what it gives, and the rest as it was
abbrev pub ran : List ℕ → Bus → Lent → Returned
ran cleared bus lent =
    record {
      answer = packed_reply (answered cleared bus);
      carried = filled bus.carried lent.carried;
      levels = filled bus.levels lent.levels;
      modules = filled (map packed (map (λ (master : Master). master.usi) bus.masters)) lent.modules;
      seats = filled (map packed_seat (zip_with seat_of cleared bus.masters)) lent.seats;
    }

unfoldable pub returned : Lent → Returned
returned lent =
    let found = refusal_of lent in
    cond (eqb found.number 0) (ran (cleared_of lent.request) (run_of lent.request) lent) (untouched found lent)

-- what demand 3 compares, as the answer, the buffers and the tables show it: k, the carried bytes, the levels with
-- those of the restarts, and of each message's master whether it contends, its position, and its AL
abbrev pub count_in : ℕ → ℕ
count_in answer = answer / 256 ^ 3 % 256 ^ 2

abbrev pub fate_in : ℕ → ℕ → Fate
fate_in usi seat =
    record {
      contending = is_set 0 seat;
      position = seat / 32;
      arbitration_lost = on (unpacked usi).usictl1 USIAL;
    }

unfoldable pub shown_in : List (List ℕ) → Returned → Outcome
shown_in messages got =
    record {
      count = count_in got.answer;
      carried = take (count_in got.answer) got.carried;
      levels = take (level_count (take (count_in got.answer) (least messages))) got.levels;
      fates = take (length messages) (zip_with fate_in got.modules got.seats);
    }

-- the call's promise: what is returned, and of a run what follows from messages and acknowledges alone (01: demand 3)
pub record Arbitrates (lent : Lent) (got : Returned) : Type 0 where
  pub returns : got ≡ returned lent
  pub follows : got.answer % 256 ≡ 0
      → shown_in (messages_of lent.request) got ≡ outcome (messages_of lent.request) lent.request.acknowledges
