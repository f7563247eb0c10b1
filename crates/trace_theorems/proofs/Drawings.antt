-- A drawing is a trace: no level is above 3, and the stamps rise.
use Prim.Native.Nat.{ℕ, zero, suc, ◌+◌, ◌<◌}
use native.Mathlib.Omega.{arith}
use mathlib.Core.Path.{◌≡◌, refl}
use mathlib.Core.Bool.{Bool, true, false, cond, ◌||◌}
use mathlib.Core.List.{List, [], ◌∷◌, ◌++◌}
use lib.Dec.{eqb}
use borrow.Author.Tests.{lt-ltb}
use Rattle.laws.specs.Search.{any}
use Rattle.trace.specs.Events.{is_byte, start_event, repeated_start_event, stop_event}
use Rattle.trace.specs.Trace.{bad_level, pairs, not_above}
use Rattle.encode.specs.Encode.{event_bits, draw_bits, draw_event, draw_events, drawing, stamps_from}

-- no level is above 3
abbrev Legal : List ℕ → Type 0
Legal levels = any bad_level levels ≡ false

legal-append : (levels more : List ℕ) → Legal levels → Legal more → Legal (levels ++ more)
legal-append [] more legal rest = rest
legal-append (level ∷ levels) more legal rest = go (bad_level level) legal (λ l. legal-append levels more l rest)
  where
    go : (bad : Bool) → bad || any bad_level levels ≡ false → (Legal levels → Legal (levels ++ more))
        → bad || any bad_level (levels ++ more) ≡ false
    go true legal later = legal
    go false legal later = later legal

legal-bits : (bits : List Bool) → Legal (draw_bits bits)
legal-bits [] = refl
legal-bits (true ∷ bits) = legal-bits bits
legal-bits (false ∷ bits) = legal-bits bits

legal-either : (test : Bool) (one other : List ℕ) → Legal one → Legal other → Legal (cond test one other)
legal-either true one other legal _ = legal
legal-either false one other _ legal = legal

legal-event : (event : ℕ) → Legal (draw_event event)
unfolding draw_event
legal-event event =
    legal-either (is_byte event) _ _ (legal-bits (event_bits event))
    (legal-either (eqb event start_event) _ _ refl
    (legal-either (eqb event repeated_start_event) _ _ refl
    (legal-either (eqb event stop_event) _ _ refl refl)))

legal-events : (list : List ℕ) → Legal (draw_events list)
legal-events [] = refl
legal-events (event ∷ list) = legal-append (draw_event event) (draw_events list) (legal-event event) (legal-events list)

pub drawing-legal : (list : List ℕ) → any bad_level (drawing list) ≡ false
drawing-legal list = legal-events list

-- each stamp is above the one before
pub stamps-rise : (count start gap : ℕ) → 0 < gap → any not_above (pairs (stamps_from start gap count)) ≡ false
stamps-rise zero start gap positive = refl
stamps-rise (suc zero) start gap positive = refl
stamps-rise (suc (suc count)) start gap positive =
    rw (lt-ltb start (start + gap) (omega arith)) (stamps-rise (suc count) (start + gap) gap positive)
