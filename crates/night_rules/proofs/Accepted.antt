-- A request for a night that no refusal turns down: what the reply counts, and what the lent slice and the table hold
-- after it.
use Prim.Native.Nat.{ℕ, ◌≤◌}
use native.Mathlib.Omega.{arith}
use mathlib.Core.Path.{◌≡◌, ap}
use mathlib.Core.Bool.{true, false}
use mathlib.Core.List.{List, [], map}
use lib.Dec.{ltb}
use lib.ListN.{length, replicate}
use borrow.Author.Tests.{eqb-false, ltb-false, eq-eqb}
use Rattle.usi.specs.declared.Usi.{Usi}
use Rattle.laws.specs.declared.Refusal.{Refusal}
use Rattle.laws.specs.Buffer.{filled}
use Rattle.laws.specs.Everyone.{Everyone, Someone}
use Rattle.laws.specs.Search.{any}
use Rattle.laws.proofs.Bools.{neither}
use Rattle.laws.proofs.Lists.{everyone-so, everyone-both, someone-so, any_false, any-true, any-one}
use Rattle.laws.proofs.Refusals.{Numbered, Passed, passed}
use Rattle.arbitration_rules.specs.Outcome.{ending_differs}
use Rattle.arbitration_rules.specs.Reply.{Request, messages_of}
use Rattle.arbitration_rules.proofs.Cut.{messages-count}
use Rattle.arbitration_rules.proofs.Pieces.{Bytes}
use Rattle.arbitration_rules.proofs.Accepted.{arbitration}
use Rattle.arbitration_rules.proofs.Undecided.{Apart, differs-apart, apart-differs}
use Rattle.night_rules.specs.Different.{different, round_of}
use Rattle.night_rules.specs.Night.{is_one, end_apart, night_checks, night_refusal, rounds_counted}
use Rattle.night_rules.specs.Night.{rounds_after, table_after}
use Rattle.night_rules.proofs.Round.{Admitted, none_apart, carried_usi}
use Rattle.night_rules.proofs.Night.{night-rounds, night-count, night-table}

-- what 16 says: two messages are alike up to some byte, and then one of them ends or restarts and the other does not
pub ends-apart : (messages : List (List ℕ)) → end_apart messages ≡ true
    → Someone (λ message. Someone (Apart [] message) messages) messages
ends-apart messages applies =
    someone-so
    (λ message some-other. someone-so (λ other. differs-apart [] message other)
    (any-true (ending_differs [] message) messages some-other))
    (any-true (λ message. any (ending_differs [] message) messages) messages applies)

pub apart-refused : (messages : List (List ℕ)) → Someone (λ message. Someone (Apart [] message) messages) messages
    → end_apart messages ≡ true
apart-refused messages apart =
    any-one
    (someone-so
    (λ message some-other. any-one
    (someone-so
    (λ other differ. apart-differs [] message other differ.index differ.alike differ.acknowledged
    differ.apart)
    some-other))
    apart)

-- where it does not apply
none-end-apart : (messages : List (List ℕ)) → end_apart messages ≡ false
    → Everyone (λ message. Everyone (λ other. ending_differs [] message other ≡ false) messages) messages
none-end-apart messages fails =
    everyone-so (λ message. any_false (ending_differs [] message) messages)
    (any_false (λ message. any (ending_differs [] message) messages) messages fails)

pub night-numbered : (request : Request) (rounds_room table_room : ℕ)
    → Numbered (night_checks request rounds_room table_room)
night-numbered request rounds_room table_room = (
  (λ e. omega arith),
  (
    (λ e. omega arith),
    (
      (λ e. omega arith),
      (
        (λ e. omega arith),
        (
          (λ e. omega arith),
          ((λ e. omega arith), ((λ e. omega arith), tt)),
        ),
      ),
    ),
  ),
)

module _ (request : Request) (rounds_room table_room : ℕ) (small : Bytes request.bytes)
    (unrefused : (night_refusal request rounds_room table_room).number ≡ 0) where
  checks-passed : Passed (night_checks request rounds_room table_room)
  unfolding night_refusal
  checks-passed =
      passed (night_checks request rounds_room table_room) (night-numbered request rounds_room table_room) unrefused

  -- the theorems of the night hold of it
  pub admitted : Admitted (messages_of request) request.acknowledges
  admitted =
      let all = checks-passed in
      let decided = none-end-apart (messages_of request) all.1.1.1.1.1.0 in
      let one =
      arbitration request small all.0 all.1.0 all.1.1.1.0
      (none_apart (messages_of request) request.acknowledges decided) in
      record {
        sendable = one.sendable;
        acknowledged =
            everyone-so
            (λ acknowledge both.
            let other : acknowledge ≡ 1 → ⊥ = eqb-false acknowledge 1 both.1 in omega (arith, both.0))
            (everyone-both one.bits (any_false is_one request.acknowledges all.1.1.1.1.0));
        decided = decided;
      }

  -- there is room for every message
  pub room : (length (messages_of request) ≤ rounds_room) × (length (messages_of request) ≤ table_room)
  room =
      let count = length request.counts in
      let short = neither (ltb rounds_room count) (ltb table_room count) checks-passed.1.1.1.1.1.1.0 in (
        omega (arith, messages-count request, ltb-false rounds_room count short.0),
        omega (arith, messages-count request, ltb-false table_room count short.1),
      )

-- the reply of an unrefused night, over the refusal that was found and the table lent
module _ (request : Request) (rounds_room : ℕ) (table : List Usi) (small : Bytes request.bytes)
    (unrefused : (night_refusal request rounds_room (length table)).number ≡ 0) where
  abbrev found : Refusal
  found = night_refusal request rounds_room (length table)

  -- it counts as many rounds as there are different messages
  pub count-after : rounds_counted request found table ≡ length (different (messages_of request))
  unfolding rounds_counted
  count-after =
      rw (eq-eqb found.number 0 unrefused)
      (night-count (messages_of request) request.acknowledges
      (admitted request rounds_room (length table) small unrefused) table)

  -- the slice holds each message's round, and the rest as it was
  pub rounds-after : (buffer : List ℕ)
      → rounds_after request found table buffer
      ≡ filled (map (round_of (messages_of request)) (messages_of request)) buffer
  unfolding rounds_after
  rounds-after buffer =
      rw (eq-eqb found.number 0 unrefused)
      (ap (λ rounds. filled rounds buffer)
      (night-rounds (messages_of request) request.acknowledges
      (admitted request rounds_room (length table) small unrefused) table))

  -- the table holds C8 45 22 00 FF 00 for each message, and the rest as it was
  pub table-after : table_after request found table
      ≡ filled (replicate (length (messages_of request)) carried_usi) table
  unfolding table_after
  table-after =
      rw (eq-eqb found.number 0 unrefused)
      (night-table (messages_of request) request.acknowledges
      (admitted request rounds_room (length table) small unrefused) table
      (room request rounds_room (length table) small unrefused).1)
