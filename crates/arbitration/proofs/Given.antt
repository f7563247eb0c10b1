-- What a request that 12 to 16 pass gives of its run: how much it carries and records.
use Prim.Native.Nat.{ℕ, zero, suc, ◌<◌, ◌≤◌}
use mathlib.Core.Path.{◌≡◌, refl, sym, ap, ◌∙◌}
use mathlib.Core.Bool.{Bool, true, false}
use mathlib.Core.List.{List, [], ◌∷◌, map}
use native.Mathlib.Omega.{arith}
use lib.Dec.{eqb, ltb}
use borrow.Author.Tests.{ltb-false, eq-eqb, ne_eqb}
use lib.ListN.{length, get_or, take}
use Rattle.laws.specs.declared.Refusal.{Refusal}
use Rattle.laws.specs.Everyone.{nobody, also}
use Rattle.laws.specs.Refusals.{check, given, none, or_else}
use Rattle.laws.proofs.Bools.{neither}
use Rattle.laws.proofs.Refusals.{Passed, passed, in_parts, unrefused, passed_ok, ok_same, err_given, err-numbered}
use Rattle.arbitration_rules.specs.Limits.{max_masters, max_length}
use Rattle.arbitration_rules.specs.Outcome.{least, carried_count, carried_of, level_count}
use Rattle.arbitration_rules.specs.Reply.{Request, lengths_of, messages_of, shape_checks}
use Rattle.arbitration_rules.specs.Reply.{request_checks, run_of, short_buffer, short_slice, refusal}
use Rattle.arbitration_rules.proofs.Pieces.{Bytes}
use Rattle.arbitration_rules.proofs.Demand.{Arbitration}
use Rattle.arbitration_rules.proofs.RecordedLevels.{byte-count, levels-count}
use Rattle.arbitration_rules.proofs.Accepted.{request-numbered, passes, sound-lengths, few-acknowledges}
use Rattle.std.specs.Prelude.{Ok, Err}
use Rattle.arbitration_checks.specs.declared.Settled.{Settled}
use Rattle.arbitration_checks.specs.Settled.{carrying, settled}
use Rattle.arbitration.specs.Prepared.{Short}

-- bytes, index by index
pub bytes_below : (bytes : List ℕ) → ((i : ℕ) → get_or bytes i 0 < 256) → Bytes bytes
bytes_below [] below = nobody
bytes_below (byte ∷ bytes) below = also (below zero) (bytes_below bytes (λ i. below (suc i)))

module _ (request : Request) where
  abbrev messages : List (List ℕ)
  messages = messages_of request

  abbrev acknowledges : List ℕ
  acknowledges = request.acknowledges

  abbrev pub found : Refusal
  found = given (request_checks request)

  pub settled-none : (run : Settled) → settled request ≡ Ok run
      → (found.number ≡ 0) × (carrying (least messages) acknowledges ≡ run)
  unfolding settled
  settled-none run is =
      let whole = carrying (least messages) acknowledges in
      let none-applies = unrefused (request_checks request) (passed_ok (request_checks request) whole run is) in
      (ap (λ (r : Refusal). r.number) none-applies, ok_same (request_checks request) whole run is)

  pub settled-some : (r : Refusal) → settled request ≡ Err r → (found ≡ r) × (r.number ≡ 0 → ⊥)
  unfolding settled
  settled-some r is =
      let whole = carrying (least messages) acknowledges in (
        err_given (request_checks request) whole r is,
        err-numbered (request_checks request) whole r (request-numbered request) is,
      )

  -- past 12 to 16
  module _ (small : Bytes request.bytes) (unrefused : found.number ≡ 0) where
    all-passed : Passed (request_checks request)
    all-passed = passed (request_checks request) (request-numbered request) unrefused

    pub arbitration : Arbitration messages acknowledges
    arbitration = passes request small all-passed

    pub few : length request.counts ≤ max_masters
    few =
        ltb-false max_masters (length request.counts)
        (neither (eqb (length request.counts) 0) (ltb max_masters (length request.counts)) all-passed.0).1

    pub shaped : (given (shape_checks request)).number ≡ 0
    shaped = rw (all-passed.0, all-passed.1.0)

    pub whole : map length messages ≡ lengths_of request
    whole = sound-lengths request all-passed.1.0

    pub short : length acknowledges ≤ max_length
    short = few-acknowledges request all-passed.1.0 all-passed.1.1.1.0

    pub carried-length : length (run_of request).carried ≡ carried_count (least messages) acknowledges
    carried-length = byte-count messages acknowledges arbitration

    pub levels-length : length (run_of request).levels
        ≡ level_count (take (carried_count (least messages) acknowledges) (least messages))
    unfolding carried_of
    levels-length = levels-count messages acknowledges arbitration

    pub short-is : (table_room carried_room level_room : ℕ)
        → Short (length request.counts) (carrying (least messages) acknowledges).count
        (carrying (least messages) acknowledges).levels table_room carried_room level_room
        ≡ short_slice request table_room carried_room level_room
    short-is table_room carried_room level_room = rw (carried-length, levels-length)

-- what an arbitration that nothing refuses has
pub record Unrefused (request : Request) (table_room carried_room level_room : ℕ) : Type 0 where
  pub passed : (found request).number ≡ 0
  pub none-applies : refusal request table_room carried_room level_room ≡ none
  pub masters : length request.counts ≤ max_masters
  pub enough : length request.counts ≤ table_room
  pub carries : length (run_of request).carried ≤ carried_room
  pub records : length (run_of request).levels ≤ level_room

module _ (request : Request) (table_room carried_room level_room : ℕ) where
  abbrev pub lacks : Bool
  lacks = short_slice request table_room carried_room level_room

  -- what applies: one of 12 to 16, or else 8
  pub applies-is : refusal request table_room carried_room level_room
      ≡ or_else (found request) (given (check 8 lacks ∷ []))
  unfolding refusal
  applies-is = in_parts (request_checks request) (check 8 lacks ∷ []) (request-numbered request)

  pub passes-some : (found request).number ≡ 0
      → refusal request table_room carried_room level_room ≡ given (check 8 lacks ∷ [])
  passes-some unrefused = applies-is ∙ rw (eq-eqb (found request).number 0 unrefused)

  enough-room : lacks ≡ false
      → (length request.counts ≤ table_room)
      × ((length (run_of request).carried ≤ carried_room) × (length (run_of request).levels ≤ level_room))
  enough-room enough =
      let bus = run_of request in
      let one = neither (short_buffer bus carried_room level_room) (ltb table_room (length request.counts)) enough in
      let two = neither (ltb carried_room (length bus.carried)) (ltb level_room (length bus.levels)) one.0 in (
        ltb-false table_room (length request.counts) one.1,
        (
          ltb-false carried_room (length bus.carried) two.0,
          ltb-false level_room (length bus.levels) two.1,
        ),
      )

  pub unrefused-gives : Bytes request.bytes → (refusal request table_room carried_room level_room).number ≡ 0
      → Unrefused request table_room carried_room level_room
  unrefused-gives small unrefused = go (found request).number refl lacks refl
    where
      number : (refusal request table_room carried_room level_room).number
          ≡ (or_else (found request) (given (check 8 lacks ∷ []))).number
      number = ap (λ (r : Refusal). r.number) applies-is

      go : (n : ℕ) → (found request).number ≡ n → (short-so : Bool) → lacks ≡ short-so
          → Unrefused request table_room carried_room level_room
      go (suc n) is short-so room =
          let some = ne_eqb (found request).number 0 (λ e. omega (arith, is)) in
          let stays : ◌≡◌ {A = ℕ} 0 (found request).number = rw some at (sym unrefused ∙ number) in
          absurd (omega (arith, is, stays))
      go zero is true room =
          let eight : ◌≡◌ {A = ℕ} 0 8 =
          rw (eq-eqb (found request).number 0 is, room) at (sym unrefused ∙ number) in
          absurd (omega (arith, eight))
      go zero is false room =
          let all = enough-room room in
          record {
            passed = is;
            none-applies = passes-some is ∙ rw room;
            masters = few request small is;
            enough = all.0;
            carries = all.1.0;
            records = all.1.1;
          }
