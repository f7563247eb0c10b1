-- The recorded levels: 5 + 18k of them and three for each restart, which decode to the list behind the drawing, in one
-- closed frame.
use Prim.Native.Nat.{ℕ, suc, ◌+◌, ◌*◌, ◌≤◌, ◌<◌}
use native.Mathlib.Omega.{arith}
use mathlib.Core.Path.{◌≡◌, refl, ap, ◌∙◌}
use mathlib.Core.Bool.{Bool, cond, true, false}
use mathlib.Core.List.{List, [], ◌∷◌, ◌++◌, append_assoc}
use lib.Dec.{eqb}
use lib.ListN.{length, get_or, drop, length-map}
use lib.Seq.{get_or-take}
use borrow.Author.Tests.{lt-ltb}
use Rattle.encode.specs.declared.Position.TheVariants.{Between, Opened, Within, Broken}
use Rattle.trace.specs.Events.{repeated_start_event, stop_event}
use Rattle.encode.specs.Complete.{advance, complete_from, complete}
use Rattle.decode.specs.Decode.{events, final}
use Rattle.trace_theorems.proofs.ReadBack.{events-back, frame_closed}
use Rattle.arbitration_rules.specs.Outcome.{byte_of, restarts, sent_at, least, carried_count, carried_of}
use Rattle.arbitration_rules.specs.Outcome.{restart_events, sent_events, carried_events, frame, level_count}
use Rattle.arbitration_rules.specs.Run.{run}
use Rattle.laws.specs.Everyone.{Everyone}
use Rattle.arbitration_rules.proofs.Carried.{carried-count, event-below, acknowledges-on, level-count}
use Rattle.arbitration_rules.proofs.Demand.{Arbitration, ended, carried-length, least-sendable}

-- bytes and their acknowledges make a whole frame
first-byte : (event : ℕ) → event < 512 → advance Opened event ≡ Within
unfolding advance
first-byte event small = ap (λ byte. cond byte Within Broken) (lt-ltb event 512 small)

next-byte : (event : ℕ) → event < 512 → advance Within event ≡ Within
unfolding advance
next-byte event small =
    ap
    (λ byte. cond byte Within (cond (eqb event repeated_start_event) Opened
    (cond (eqb event stop_event) Between Broken)))
    (lt-ltb event 512 small)

-- a restart opens the frame again
restart-then : (sent event : ℕ) (rest : List ℕ) → event < 512
    → complete_from Within (restart_events sent ++ event ∷ rest) ≡ complete_from Within rest
restart-then sent event rest small = go (restarts sent)
  where
    go : (again : Bool) → complete_from Within (cond again (repeated_start_event ∷ []) [] ++ event ∷ rest)
        ≡ complete_from Within rest
    go true =
        unfold advance in
        ap (λ position. complete_from position rest) (first-byte event small)
    go false = ap (λ position. complete_from position rest) (next-byte event small)

events-within : (carried : List ℕ) {acknowledges : List ℕ} → Everyone (λ acknowledge. acknowledge ≤ 1) acknowledges
    → complete_from Within (carried_events carried acknowledges ++ stop_event ∷ []) ≡ true
events-within [] ones = unfold advance in refl
events-within (sent ∷ carried) {acknowledges} ones =
    ap (complete_from Within)
    (append_assoc (sent_events sent (get_or acknowledges 0 0)) (carried_events carried (drop 1 acknowledges))
    (stop_event ∷ [])
    ∙ append_assoc (restart_events sent) ((byte_of sent + 256 * get_or acknowledges 0 0) ∷ [])
    (carried_events carried (drop 1 acknowledges) ++ stop_event ∷ []))
    ∙ restart-then sent (byte_of sent + 256 * get_or acknowledges 0 0)
    (carried_events carried (drop 1 acknowledges) ++ stop_event ∷ []) (event-below sent ones)
    ∙ events-within carried (acknowledges-on ones)

frame-complete : (carried : List ℕ) {acknowledges : List ℕ} → 0 < length carried
    → restarts (sent_at 0 carried) ≡ false
    → Everyone (λ acknowledge. acknowledge ≤ 1) acknowledges → complete (frame carried acknowledges) ≡ true
unfolding advance frame
frame-complete [] some first ones = absurd (omega arith)
frame-complete (sent ∷ carried) {acknowledges} some first ones =
    ap (complete_from Opened)
    (append_assoc (sent_events sent (get_or acknowledges 0 0)) (carried_events carried (drop 1 acknowledges))
    (stop_event ∷ [])
    ∙ ap (λ again. (cond again (repeated_start_event ∷ []) [] ++ event ∷ []) ++ rest) first)
    ∙ ap (λ position. complete_from position rest) (first-byte event (event-below sent ones))
    ∙ events-within carried (acknowledges-on ones)
  where
    event : ℕ
    event = byte_of sent + 256 * get_or acknowledges 0 0

    rest : List ℕ
    rest = carried_events carried (drop 1 acknowledges) ++ stop_event ∷ []

module _ (messages : List (List ℕ)) (acknowledges : List ℕ) (given : Arbitration messages acknowledges) where
  -- k bytes
  pub byte-count : length (run messages acknowledges).carried ≡ carried_count (least messages) acknowledges
  byte-count =
      ap length (ended messages acknowledges given).bytes
      ∙ length-map (carried_of messages acknowledges) byte_of ∙ carried-length messages acknowledges

  -- and 5 + 18k levels, and three for each restart
  pub levels-count : length (run messages acknowledges).levels ≡ level_count (carried_of messages acknowledges)
  levels-count =
      ap length (ended messages acknowledges given).levels
      ∙ level-count (carried_of messages acknowledges) acknowledges given.bits

  -- at least one byte is carried
  one-carried : (message acknowledges : List ℕ) → 0 < length message → 0 < carried_count message acknowledges
  one-carried [] acknowledges some = some
  one-carried (sent ∷ message) [] some = omega arith
  one-carried (sent ∷ message) (acknowledge ∷ acknowledges) some = go (eqb acknowledge 1)
    where
      go : (last : Bool) → 0 < cond last 1 (suc (carried_count message acknowledges))
      go true = omega arith
      go false = omega arith

  whole : complete (frame (carried_of messages acknowledges) acknowledges) ≡ true
  unfolding carried_of
  whole =
      let some : 0 < carried_count (least messages) acknowledges =
      one-carried (least messages) acknowledges (least-sendable messages given).some in
      frame-complete (carried_of messages acknowledges)
      (omega (arith, carried-count (least messages) acknowledges))
      (ap restarts (get_or-take (carried_count (least messages) acknowledges) (least messages) 0 256 some)
      ∙ (least-sendable messages given).first)
      given.bits

  -- decode reads the list behind the drawing back from them, and the frame is closed
  pub decodes : events (run messages acknowledges).levels ≡ frame (carried_of messages acknowledges) acknowledges
  decodes =
      ap events (ended messages acknowledges given).levels
      ∙ events-back (frame (carried_of messages acknowledges) acknowledges) whole

  pub closes : (final (run messages acknowledges).levels).framed ≡ false
  closes =
      ap (λ levels. (final levels).framed) (ended messages acknowledges given).levels
      ∙ frame_closed (frame (carried_of messages acknowledges) acknowledges) whole
