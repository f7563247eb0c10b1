-- What is carried and how it is drawn: k bytes of the least message, eight bits and an acknowledge each, in one
-- frame.
use Prim.Native.Nat.{ℕ, zero, suc, ◌+◌, ◌*◌, ◌≤◌, ◌<◌, min}
use native.Mathlib.Omega.{arith}
use mathlib.Core.Path.{◌≡◌, refl, ap, ◌∙◌}
use mathlib.Core.Bool.{Bool, cond, true, false}
use mathlib.Core.List.{List, [], ◌∷◌, ◌++◌}
use lib.Dec.{eqb}
use borrow.Author.Tests.{lt-ltb}
use lib.ListN.{length, get_or, take, drop, length-append, length-take}
use Rattle.trace.specs.Events.{repeated_start_event, stop_event}
use Rattle.encode.specs.Encode.{draw_event, draw_events, drawing}
use Rattle.encode.proofs.EventLists.{draw-append}
use Rattle.encode.proofs.Samples.{byte-length}
use Rattle.arbitration_rules.specs.Outcome.{byte_of, restarts, carried_count, restart_events, sent_events}
use Rattle.arbitration_rules.specs.Outcome.{carried_events, restart_count, frame, level_count}
use Rattle.laws.specs.Everyone.{Everyone, nobody, also}

-- the carried bytes are as many as k says, and no more than the message has
pub carried-count : (message acknowledges : List ℕ)
    → length (take (carried_count message acknowledges) message) ≡ carried_count message acknowledges
carried-count [] acknowledges = refl
carried-count (byte ∷ bytes) [] = ap suc (carried-count bytes [])
carried-count (byte ∷ bytes) (acknowledge ∷ acknowledges) = go (carried-count bytes acknowledges) (eqb acknowledge 1)
  where
    go : length (take (carried_count bytes acknowledges) bytes) ≡ carried_count bytes acknowledges → (last : Bool)
        → length (take (cond last 1 (suc (carried_count bytes acknowledges))) (byte ∷ bytes))
        ≡ cond last 1 (suc (carried_count bytes acknowledges))
    go rest true = refl
    go rest false = ap suc rest

pub carried-within : (message acknowledges : List ℕ) → carried_count message acknowledges ≤ length message
carried-within message acknowledges =
    let taken : length (take (carried_count message acknowledges) message)
    ≡ min (carried_count message acknowledges) (length message) =
    length-take (carried_count message acknowledges) message in
    omega (arith, carried-count message acknowledges)

pub carried-too : {P : ℕ → Type 0} {message : List ℕ} → Everyone P message → (count : ℕ)
    → Everyone P (take count message)
carried-too all zero = nobody
carried-too nobody (suc count) = nobody
carried-too (also first rest) (suc count) = also first (carried-too rest count)

-- a frame: START, the bytes, STOP
pub frame-drawn : (carried acknowledges : List ℕ)
    → drawing (frame carried acknowledges)
    ≡ 3 ∷ 1 ∷ (draw_events (carried_events carried acknowledges) ++ 0 ∷ 1 ∷ 3 ∷ [])
unfolding frame draw_event
frame-drawn carried acknowledges =
    ap (λ (levels : List ℕ). 3 ∷ 1 ∷ levels) (draw-append (carried_events carried acknowledges) (stop_event ∷ []))

-- it has 5 + 18k levels, and three for each restart
acknowledge-small : {acknowledges : List ℕ} → Everyone (λ acknowledge. acknowledge ≤ 1) acknowledges
    → get_or acknowledges 0 0 ≤ 1
acknowledge-small nobody = omega arith
acknowledge-small (also bit bits) = bit

pub acknowledges-on : {acknowledges : List ℕ} → Everyone (λ acknowledge. acknowledge ≤ 1) acknowledges
    → Everyone (λ acknowledge. acknowledge ≤ 1) (drop 1 acknowledges)
acknowledges-on nobody = nobody
acknowledges-on (also bit bits) = bits

-- the event of a byte is below 512
pub event-below : (sent : ℕ) {acknowledges : List ℕ} → Everyone (λ acknowledge. acknowledge ≤ 1) acknowledges
    → byte_of sent + 256 * get_or acknowledges 0 0 < 512
event-below sent bits = omega (arith, acknowledge-small bits)

restart-levels : (sent : ℕ) → length (draw_events (restart_events sent)) ≡ 3 * cond (restarts sent) 1 0
unfolding draw_event
restart-levels sent = go (restarts sent)
  where
    go : (again : Bool)
        → length (draw_events (cond again (repeated_start_event ∷ []) [])) ≡ 3 * cond again 1 0
    go true = refl
    go false = refl

sent-levels : (sent event : ℕ) → event < 512
    → length (draw_events (restart_events sent ++ event ∷ [])) ≡ 3 * cond (restarts sent) 1 0 + 18
sent-levels sent event small =
    ap length (draw-append (restart_events sent) (event ∷ []))
    ∙ length-append (draw_events (restart_events sent)) (draw_event event ++ [])
    ∙ omega (
      arith,
      restart-levels sent,
      length-append (draw_event event) [],
      byte-length event (lt-ltb event 512 small),
    )

events-levels : (carried : List ℕ) {acknowledges : List ℕ} → Everyone (λ acknowledge. acknowledge ≤ 1) acknowledges
    → length (draw_events (carried_events carried acknowledges)) ≡ 18 * length carried + 3 * restart_count carried
events-levels [] bits = refl
events-levels (sent ∷ carried) {acknowledges} bits =
    ap length
    (draw-append (sent_events sent (get_or acknowledges 0 0)) (carried_events carried (drop 1 acknowledges)))
    ∙ length-append (draw_events (sent_events sent (get_or acknowledges 0 0)))
    (draw_events (carried_events carried (drop 1 acknowledges)))
    ∙ omega (
      arith,
      sent-levels sent (byte_of sent + 256 * get_or acknowledges 0 0) (event-below sent bits),
      events-levels carried (acknowledges-on bits),
    )

pub level-count : (carried acknowledges : List ℕ) → Everyone (λ acknowledge. acknowledge ≤ 1) acknowledges
    → length (drawing (frame carried acknowledges)) ≡ level_count carried
level-count carried acknowledges bits =
    ap length (frame-drawn carried acknowledges)
    ∙ omega (
      arith,
      length-append (draw_events (carried_events carried acknowledges)) (0 ∷ 1 ∷ 3 ∷ []),
      events-levels carried bits,
    )
