-- A reply that is not refused, from messages and acknowledges alone: who is still in, and how many bytes are carried.
use Prim.Native.Nat.{ℕ, zero, suc}
use mathlib.Core.Path.{◌≡◌, refl, ap, ap₂, ◌∙◌}
use mathlib.Core.Bool.{Bool, cond, true, false}
use mathlib.Core.List.{List, [], ◌∷◌, ◌++◌, map, zip_with}
use mathlib.Core.Option.{Option, none, some}
use native.Mathlib.Omega.{arith}
use borrow.Author.Tests.{eq-eqb, eqb-true}
use lib.Dec.{eqb}
use lib.ListN.{length, take, length-map}
use Rattle.laws.specs.Everyone.{Everyone, nobody, also, Someone, this, another}
use Rattle.laws.specs.declared.Refusal.{Refusal}
use Rattle.laws.specs.Refusals.{Check, check}
use Rattle.laws.proofs.Lists.{someone-so}
use Rattle.laws.proofs.Refusals.{Numbered, passed, numbered-both}
use Rattle.arbitration_rules.specs.declared.Arbitrated.{Arbitrated}
use Rattle.arbitration_rules.specs.declared.Seat.{Seat}
use Rattle.arbitration_rules.specs.Final.{final_master}
use Rattle.arbitration_rules.specs.Outcome.{byte_of, least, carried_count, carried_of, loss_from, fate}
use Rattle.arbitration_rules.specs.Reply.{Request, messages_of, request_checks, short_slice, refusal, refused}
use Rattle.arbitration_rules.specs.Reply.{absent, seat_of, padded, answered, arbitrated, run_of}
use Rattle.arbitration_rules.specs.Cleared.{cleared_by}
use Rattle.arbitration_rules.proofs.Accepted.{accepted, request-numbered}
use Rattle.arbitration_rules.proofs.Pieces.{Bytes}
use Rattle.arbitration_rules.proofs.Demand.{Arbitration, ended, contest, carried-length}
use Rattle.arbitration_rules.proofs.FinalMasters.{final-masters}
use Rattle.arbitration_rules.proofs.ClearedFlags.{run-clears}
use Rattle.arbitration_messages.specs.Gathered.{passing}
use Rattle.verdict.specs.Verdict.{contenders}

-- the messages that lose nothing against the carried bytes, in their order
abbrev pub unbeaten : List ℕ → List (List ℕ) → List (List ℕ)
unbeaten carried [] = []
unbeaten carried (message ∷ messages) =
    cond (fate (loss_from 0 carried message)).contending (message ∷ unbeaten carried messages)
    (unbeaten carried messages)

-- seats of masters as a run leaves them, each with the flags that its writes cleared
abbrev seated : List ℕ → List (List ℕ) → List Seat
seated carried messages = zip_with seat_of (map (λ (m : List ℕ). 0x03) messages) (map (final_master carried) messages)

seats-in : (carried : List ℕ) (messages : List (List ℕ)) (seats : List Seat)
    → contenders (seated carried messages ++ seats) messages ≡ unbeaten carried messages
unfolding zip_with
seats-in carried [] [] = refl
seats-in carried [] (seat ∷ seats) = refl
seats-in carried (message ∷ messages) seats =
    ap (λ rest. cond (fate (loss_from 0 carried message)).contending (message ∷ rest) rest)
    (seats-in carried messages seats)

-- whoever sends what is carried loses nothing
own-start : (index count : ℕ) (message : List ℕ) → loss_from index (take count message) message ≡ none
own-start index zero message = refl
own-start index (suc count) [] = refl
own-start index (suc count) (sent ∷ message) =
    rw (eq-eqb (byte_of sent) (byte_of sent) refl) (own-start (suc index) count message)

-- what holds of someone who loses nothing holds of someone unbeaten
unbeaten-some : {P : List ℕ → Type 0} (carried : List ℕ) {messages : List (List ℕ)}
    → Someone (λ own. P own × (loss_from 0 carried own ≡ none)) messages → Someone P (unbeaten carried messages)
unbeaten-some {P} carried (this {a} {l} (holds, still)) = rw still (this holds)
unbeaten-some {P} carried (another {a} {l} some_one) =
    go (fate (loss_from 0 carried a)).contending (unbeaten-some carried some_one)
  where
    go : (contending : Bool) → Someone P (unbeaten carried l)
        → Someone P (cond contending (a ∷ unbeaten carried l) (unbeaten carried l))
    go true rest = another rest
    go false rest = rest

-- what holds of all who lose nothing holds of everyone unbeaten
pub unbeaten-every : {P : List ℕ → Type 0} (carried : List ℕ) {messages : List (List ℕ)}
    → Everyone (λ own. loss_from 0 carried own ≡ none → P own) messages → Everyone P (unbeaten carried messages)
unbeaten-every carried nobody = nobody
unbeaten-every {P} carried (also {a} {l} holds more) = go (loss_from 0 carried a) holds (unbeaten-every carried more)
  where
    go : (loss : Option ℕ) → (loss ≡ none → P a) → Everyone P (unbeaten carried l)
        → Everyone P (cond (fate loss).contending (a ∷ unbeaten carried l) (unbeaten carried l))
    go none holds rest = also (holds refl) rest
    go (some position) holds rest = rest

-- a reply that is not refused
module _ (request : Request) (table_room carried_room level_room : ℕ) where
  abbrev pub reply_to : Arbitrated
  reply_to = arbitrated request table_room carried_room level_room

  abbrev found : Refusal
  found = refusal request table_room carried_room level_room

  abbrev acknowledges : List ℕ
  acknowledges = request.acknowledges

  abbrev messages : List (List ℕ)
  messages = messages_of request

  abbrev carried : List ℕ
  carried = carried_of messages acknowledges

  module _ (small : Bytes request.bytes) (unrefused : reply_to.refusal.number ≡ 0) where
    none-applies : found.number ≡ 0
    unfolding arbitrated refused
    none-applies = go (eqb found.number 0) refl
      where
        go : (none_so : Bool) → eqb found.number 0 ≡ none_so → found.number ≡ 0
        go true is = eqb-true found.number 0 is
        go false is = rw is at unrefused

    reply-is : reply_to ≡ answered (cleared_by messages acknowledges) (run_of request)
    unfolding arbitrated
    reply-is = rw (eq-eqb found.number 0 none-applies)

    pub given : Arbitration messages acknowledges
    given = accepted request table_room carried_room level_room small none-applies

    -- 12 and 13 do not apply, so all messages are there
    pub all_there : passing request ≡ messages
    unfolding refusal passing
    all_there =
        let room : List Check = check 8 (short_slice request table_room carried_room level_room) ∷ [] in
        let numbered : Numbered (request_checks request ++ room) =
        numbered-both (request_checks request) room (request-numbered request) ((λ e. omega arith), tt) in
        let all = passed (request_checks request ++ room) numbered none-applies in
        rw (all.0, all.1.0)

    -- those still in are those that lose nothing against the carried bytes
    pub those-in : contenders reply_to.seats messages ≡ unbeaten carried messages
    unfolding answered
    those-in =
        ap (λ (r : Arbitrated). contenders r.seats messages) reply-is
        ∙ ap₂ (λ flags masters. contenders (padded absent (zip_with seat_of flags masters)) messages)
        (run-clears messages acknowledges given) (final-masters messages acknowledges given)
        ∙ seats-in carried messages _

    -- k is what the least message and the acknowledges say
    pub count-is : reply_to.count ≡ carried_count (least messages) acknowledges
    unfolding answered
    count-is =
        ap (λ (r : Arbitrated). r.count) reply-is
        ∙ ap length (ended messages acknowledges given).bytes
        ∙ length-map carried byte_of
        ∙ carried-length messages acknowledges

    -- someone still in has the least message
    pub winner-in : Someone (λ own. own ≡ least messages) (contenders reply_to.seats messages)
    unfolding carried_of
    winner-in =
        rw those-in
        (unbeaten-some carried
        (someone-so
        (λ own same. (
          same,
          ap (loss_from 0 carried) same
              ∙ own-start 0 (carried_count (least messages) acknowledges) (least messages),
        ))
        (contest messages given).sent))
