-- A complete list that decode gives takes no more samples to draw than the trace had, so 6 never applies to it.
use Prim.Native.Nat.{ℕ, ◌+◌, ◌≤◌}
use native.Mathlib.Omega.{arith}
use mathlib.Core.Path.{◌≡◌, refl}
use mathlib.Core.Bool.{true, false}
use mathlib.Core.List.{List, [], ◌∷◌, ◌++◌}
use lib.ListN.{length, length-append}
use Rattle.decode.specs.declared.Decoder.{Decoder}
use Rattle.encode.specs.declared.Position.{Position}
use Rattle.encode.specs.declared.Position.TheVariants.{Between}
use Rattle.trace.specs.Limits.{max_samples}
use Rattle.levels.specs.Levels.{starts, stops}
use Rattle.decode.specs.Decode.{idle, takes, next, lists, listed, events}
use Rattle.encode.specs.Complete.{complete_from, complete}
use Rattle.encode.specs.Encode.{draw_events, sample_count}
use Rattle.decode.specs.Stepping.{Sound}
use Rattle.decode.proofs.Sound.{idle-sound, next-sound}
use Rattle.encode.proofs.EventLists.{draw-append}
use Rattle.encode.proofs.Samples.{drawing-length}
use Rattle.decode.proofs.Sample.{sampled}
use Rattle.trace_theorems.proofs.Credit.{credit, Stands, Paid, sample-paid}

draw-length : (list more : List ℕ)
    → length (draw_events (list ++ more)) ≡ length (draw_events list) + length (draw_events more)
draw-length list more = rw draw-append (length-append (draw_events list) (draw_events more))

-- from any decoder: the samples to come and its credit pay for what is still listed
listed-paid : (levels : List ℕ) (position : Position) (decoder : Decoder) → Sound decoder → Stands position decoder
    → complete_from position (listed decoder levels) ≡ true
    → length (draw_events (listed decoder levels)) ≤ length levels + credit decoder
listed-paid [] position decoder sound stands whole = omega arith
listed-paid (level ∷ levels) position decoder sound stands whole =
    let after : Decoder = next decoder level in
    let later : List ℕ = listed after levels in
    let paid : Paid decoder (lists decoder level) after later =
    sample-paid position later (sampled decoder level) sound stands whole in
    let rest : length (draw_events later) ≤ length levels + credit after =
    listed-paid levels paid.position after (next-sound decoder level sound) paid.stands paid.goes-on in
    omega (arith, draw-length (lists decoder level) later, paid.cost)

-- the first sample is only remembered
abbrev waiting : ℕ → Decoder
waiting level = record { last = level; framed = false; marked = false; pending = 0; value = 0 }

waits : (level : ℕ) → next idle level ≡ waiting level
unfolding starts stops takes next
waits level = refl

lists-none : (level : ℕ) → lists idle level ≡ []
unfolding starts stops takes lists
lists-none level = refl

-- a trace of at least one sample
pub redraw-within : (level : ℕ) (levels : List ℕ) → complete (events (level ∷ levels)) ≡ true
    → sample_count (events (level ∷ levels)) ≤ length (level ∷ levels)
redraw-within level levels whole =
    let later : events (level ∷ levels) ≡ listed (waiting level) levels = rw (lists-none level, waits level) in
    let sound : Sound (waiting level) = rw waits at (next-sound idle level idle-sound) in
    let paid : length (draw_events (events (level ∷ levels))) ≤ length levels + 0 =
    rw later (listed-paid levels Between (waiting level) sound refl (rw later at whole)) in
    omega (arith, drawing-length (events (level ∷ levels)) whole)

-- an empty trace gives the empty list, whose drawing is the one level 3
pub redraw-none : sample_count (events []) ≡ 1
redraw-none = refl

-- so 6 never applies
pub redraw-limit : (levels : List ℕ) → length levels ≤ max_samples → complete (events levels) ≡ true
    → sample_count (events levels) ≤ max_samples
redraw-limit [] few whole = omega arith
redraw-limit (level ∷ levels) few whole = omega (arith, redraw-within level levels whole)
