-- The passes over an event list: one event more.
use mathlib.Core.Path.{◌≡◌, refl, sym, ap, ◌∙◌}
use mathlib.Core.List.{List, [], ◌∷◌, ◌++◌, append_assoc}
use Prim.Native.Nat.{ℕ, suc, ◌+◌, ◌≤◌, ◌<◌}
use native.Mathlib.Numerals.{add-one}
use native.Mathlib.Omega.{arith}
use lib.ListN.{length, get_or, drop, drop_of_length-le}
use lib.Seq.{drop-cons}
use Rattle.encode.specs.declared.Position.{Position}
use Rattle.trace.specs.Events.{is_byte}
use Rattle.encode.specs.Complete.{advance, complete_from}
use Rattle.encode.specs.Encode.{draw_event, draw_events, is_start, is_repeated_start, sample_count, event_samples}
use Rattle.laws.proofs.Bools.{bool-byte}

pub complete-more : (events : List ℕ) (position : Position) (i : ℕ) → i < length events
    → complete_from position (drop i events) ≡ complete_from (advance position (get_or events i 0)) (drop (i + 1) events)
complete-more events position i h = rw add-one (ap (complete_from position) (drop-cons events i 0 h))

-- an event adds its own samples
pub samples-cons : (event : ℕ) (events : List ℕ)
    → sample_count (event ∷ events) ≡ event_samples event + sample_count events
unfolding event_samples
samples-cons event events =
    omega (arith, bool-byte (is_start event), bool-byte (is_byte event), bool-byte (is_repeated_start event))

pub samples-more : (events : List ℕ) (i : ℕ) → i < length events
    → sample_count (drop i events) ≡ event_samples (get_or events i 0) + sample_count (drop (i + 1) events)
samples-more events i h = rw (add-one, drop-cons events i 0 h) (samples-cons (get_or events i 0) (drop (suc i) events))

pub few-samples : (event : ℕ) → event_samples event ≤ 25
unfolding event_samples
few-samples event =
    omega (arith, bool-byte (is_start event), bool-byte (is_byte event), bool-byte (is_repeated_start event))

-- what is left to draw is what this event draws, and what is left then
pub draw-more : (events : List ℕ) (i : ℕ) → i < length events
    → draw_events (drop i events) ≡ draw_event (get_or events i 0) ++ draw_events (drop (i + 1) events)
draw-more events i h = rw add-one (ap draw_events (drop-cons events i 0 h))

pub draw-end : (events : List ℕ) (i : ℕ) → length events ≤ i → draw_events (drop i events) ≡ []
draw-end events i h = ap draw_events (drop_of_length-le events h)

-- lists drawn one after the other
pub draw-append : (list more : List ℕ) → draw_events (list ++ more) ≡ draw_events list ++ draw_events more
draw-append [] more = refl
draw-append (event ∷ list) more =
    ap (λ (levels : List ℕ). draw_event event ++ levels) (draw-append list more)
    ∙ sym (append_assoc (draw_event event) (draw_events list) (draw_events more))
