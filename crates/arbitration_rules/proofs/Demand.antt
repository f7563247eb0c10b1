-- Demand 3: what a run by 01's steps shows is what follows from the messages and the acknowledges alone.
use Prim.Native.Nat.{ℕ, ◌≤◌, ◌<◌}
use native.Mathlib.Omega.{arith}
use mathlib.Core.Path.{◌≡◌, refl, ap, ap₂, sym, ◌∙◌}
use mathlib.Core.Bool.{true, false, not}
use mathlib.Core.List.{List, [], ◌∷◌, ◌++◌, map, map-map}
use lib.ListN.{length, take, drop, take-append-drop, length-map}
use Rattle.encode.specs.Encode.{draw_events, drawing}
use Rattle.arbitration_rules.specs.Masters.{Master}
use Rattle.arbitration_rules.specs.Outcome.{byte_of, restarts, sent_at, least, carried_count, carried_of}
use Rattle.arbitration_rules.specs.Outcome.{carried_events, frame, outcome, ending_differs, undecided}
use Rattle.arbitration_rules.specs.Outcome.{Fate, Outcome, loss_from, fate}
use Rattle.levels.specs.Levels.{level_of}
use Rattle.arbitration_rules.specs.Run.{Bus, run, fate_of, observed}
use Rattle.arbitration_rules.proofs.Phases.{bytes_turn, stopped, run_is}
use Rattle.laws.specs.Everyone.{Everyone, Someone}
use Rattle.laws.proofs.Lists.{everyone, everyone-so, everyone-both, someone-so, map-alike, any_false}
use Rattle.arbitration_rules.proofs.Wire.{bus_of}
use Rattle.arbitration_rules.proofs.Pause.{after_start, is_in, standing_as}
use Rattle.arbitration_rules.proofs.Ends.{start_is, final_usi, stop_is}
use Rattle.arbitration_rules.proofs.Follows.{Sent}
use Rattle.arbitration_rules.proofs.Against.{against, owner-in}
use Rattle.arbitration_rules.proofs.LeastMessage.{at-most, least-at-most, least-among, least-too}
use Rattle.arbitration_rules.proofs.Carry.{Contest, paused}
use Rattle.arbitration_rules.proofs.Loop.{Carried, carries}
use Rattle.arbitration_rules.proofs.Carried.{carried-count, frame-drawn}
use Rattle.arbitration_rules.proofs.Fates.{final-fate}

-- a message that can be sent: at least one byte, the first with no restart before it, and an acknowledge for each
pub record Sendable (acknowledges message : List ℕ) : Type 0 where
  pub bytes : Sent message
  pub some : 0 < length message
  pub first : restarts (sent_at 0 message) ≡ false
  pub answered : length message ≤ length acknowledges

-- one or more messages that can be sent, acknowledges that are 0 or 1, and 16 does not apply
pub record Arbitration (messages : List (List ℕ)) (acknowledges : List ℕ) : Type 0 where
  pub someone : 0 < length messages
  pub sendable : Everyone (Sendable acknowledges) messages
  pub bits : Everyone (λ acknowledge. acknowledge ≤ 1) acknowledges
  pub decided : undecided messages acknowledges ≡ false

-- the bus at the end: the modules whole, the levels, the carried bytes
pub record Ended (bus : Bus) (messages : List (List ℕ)) (carried acknowledges : List ℕ) : Type 0 where
  pub masters : bus.masters ≡ map (λ message. standing_as final_usi (against 0 carried message)) messages
  pub levels : bus.levels ≡ drawing (frame carried acknowledges)
  pub bytes : bus.carried ≡ map byte_of carried

-- the owner of the least message is in at the end
pub winner-in : (messages : List (List ℕ)) (winner : List ℕ) (k : ℕ) → Someone (λ message. message ≡ winner) messages
    → Someone (λ message. is_in (against 0 (take k winner) message) ≡ true) messages
winner-in messages winner k some =
    someone-so
    (λ message same.
    ap (λ m. is_in (against 0 (take k winner) m)) (same ∙ sym (take-append-drop k winner))
    ∙ owner-in 0 (take k winner) (drop k winner))
    some

run_ends : (messages : List (List ℕ)) (acknowledges winner : List ℕ) → Contest messages [] winner acknowledges
    → Sendable acknowledges winner
    → Everyone (λ acknowledge. acknowledge ≤ 1) acknowledges
    → Ended (run messages acknowledges) messages (take (carried_count winner acknowledges) winner) acknowledges
run_ends messages acknowledges [] contest sendable bits = absurd (omega (arith, sendable.some))
run_ends messages acknowledges (sent ∷ more) contest sendable bits =
    record {
      masters = ap (λ (bus : Bus). bus.masters) whole;
      levels = ap (λ (bus : Bus). bus.levels) whole ∙ sym (frame-drawn carried acknowledges);
      bytes = ap (λ (bus : Bus). bus.carried) whole;
    }
  where
    carried : List ℕ
    carried = take (carried_count (sent ∷ more) acknowledges) (sent ∷ more)

    over : Carried (bytes_turn messages acknowledges 0 (paused messages (after_start 0) [] (3 ∷ 1 ∷ []))) messages
        carried (3 ∷ 1 ∷ draw_events (carried_events carried acknowledges))
    over =
        carries messages acknowledges 0 [] sent more (after_start 0) (3 ∷ 1 ∷ []) contest refl sendable.first bits
        (omega (arith, sendable.answered))

    final : List Master
    final = map (λ message. standing_as final_usi (against 0 carried message)) messages

    whole : run messages acknowledges
        ≡ bus_of final false 3 over.last
        (3 ∷ 1 ∷ (draw_events (carried_events carried acknowledges) ++ 0 ∷ 1 ∷ 3 ∷ [])) (map byte_of carried)
    whole =
        run_is messages acknowledges
        ∙ ap (λ bus. stopped (bytes_turn messages acknowledges 0 bus)) (start_is messages contest.sent)
        ∙ ap stopped over.is
        ∙ stop_is messages (against 0 carried) over.last over.ninth (not over.ninth)
        (level_of true over.ninth)
        over.last (3 ∷ 1 ∷ draw_events (carried_events carried acknowledges)) (map byte_of carried)
        (winner-in messages (sent ∷ more) (carried_count (sent ∷ more) acknowledges) contest.sent)

pub least-sendable : (messages : List (List ℕ)) {acknowledges : List ℕ} → Arbitration messages acknowledges
    → Sendable acknowledges (least messages)
least-sendable [] given = absurd (omega (arith, given.someone))
least-sendable (message ∷ messages) given = least-too message messages given.sendable

-- before the first byte everybody is in and follows the least message
pub contest : (messages : List (List ℕ)) {acknowledges : List ℕ} → Arbitration messages acknowledges
    → Contest messages [] (least messages) acknowledges
unfolding undecided
contest [] given = absurd (omega (arith, given.someone))
contest (message ∷ messages) {acknowledges} given =
    let winner = least (message ∷ messages) in
    record {
      follows =
          everyone-so
          (λ own both still. record {
            order = at-most winner own both.0;
            ending = both.1.0;
            theirs = (least-sendable (message ∷ messages) given).bytes;
            own = both.1.1.bytes;
          })
          (everyone-both (least-at-most (message ∷ messages))
          (everyone-both
          (any_false (ending_differs acknowledges winner) (message ∷ messages) given.decided)
          given.sendable));
      sent = least-among message messages;
    }

-- the run's end, from messages and acknowledges
pub ended : (messages : List (List ℕ)) (acknowledges : List ℕ) → Arbitration messages acknowledges
    → Ended (run messages acknowledges) messages (carried_of messages acknowledges) acknowledges
unfolding carried_of
ended messages acknowledges given =
    run_ends messages acknowledges (least messages) (contest messages given) (least-sendable messages given)
    given.bits

-- the carried bytes are k
pub carried-length : (messages : List (List ℕ)) (acknowledges : List ℕ)
    → length (carried_of messages acknowledges) ≡ carried_count (least messages) acknowledges
unfolding carried_of
carried-length messages acknowledges = carried-count (least messages) acknowledges

-- what a run shows is what follows from messages and acknowledges alone
pub run-shows-outcome : (messages : List (List ℕ)) (acknowledges : List ℕ) → Arbitration messages acknowledges
    → observed (run messages acknowledges) ≡ outcome messages acknowledges
unfolding observed outcome
run-shows-outcome messages acknowledges given =
    let end = ended messages acknowledges given in
    let fates : map fate_of (run messages acknowledges).masters ≡ fates_of carried =
    ap (map fate_of) end.masters
    ∙ map-map fate_of (λ message. standing_as final_usi (against 0 carried message)) messages
    ∙ map-alike (everyone (λ message. final-fate 0 carried message) messages) in
    ap₂ (λ bytes levels. shows (length bytes) bytes levels (map fate_of (run messages acknowledges).masters))
    end.bytes end.levels
    ∙ ap₂ (λ count now. shows count (map byte_of carried) (drawing (frame carried acknowledges)) now)
    (length-map carried byte_of ∙ carried-length messages acknowledges) fates
  where
    carried : List ℕ
    carried = carried_of messages acknowledges

    fates_of : List ℕ → List Fate
    fates_of carried = map (λ message. fate (loss_from 0 carried message)) messages

    shows : ℕ → List ℕ → List ℕ → List Fate → Outcome
    shows count bytes levels fates = record { count = count; carried = bytes; levels = levels; fates = fates }
