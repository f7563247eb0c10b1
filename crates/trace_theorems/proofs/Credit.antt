-- Why a drawing takes no more samples than the trace that its events were read from: a sample adds at most one to
-- a credit, and what it lists takes no more samples to draw than the credit that it uses up. In a frame the credit is
-- two samples for each bit that is pending, one for the low phase of the next bit and one for its high phase.
use Prim.Native.Nat.{ℕ, ◌+◌, ◌*◌, ◌≤◌}
use native.Mathlib.Omega.{arith}
use mathlib.Core.Path.{◌≡◌, refl, sym, ◌∙◌}
use mathlib.Core.Bool.{Bool, true, false, cond, false≢true}
use mathlib.Core.List.{List, [], ◌∷◌, ◌++◌}
use mir.Val.{bool_byte}
use lib.Dec.{eqb}
use lib.ListN.{length, length-append}
use borrow.Author.Tests.{eqb-true, lt-ltb}
use Rattle.decode.specs.declared.Decoder.{Decoder}
use Rattle.encode.specs.declared.Position.{Position}
use Rattle.encode.specs.declared.Position.TheVariants.{Between, Opened, Within, Broken}
use Rattle.levels.specs.Levels.{scl}
use Rattle.trace.specs.Events.{is_byte, partial_event, stop_event}
use Rattle.decode.specs.Decode.{ninth, conditioned, seen, cut, start_of}
use Rattle.encode.specs.Complete.{advance, complete_from}
use Rattle.encode.specs.Encode.{draw_event, draw_events}
use Rattle.decode.specs.Stepping.{Sound}
use Rattle.laws.proofs.Bools.{bool-byte}
use Rattle.encode.proofs.Grammar.{never}
use Rattle.encode.proofs.Samples.{byte-length}
use Rattle.decode.proofs.Bounds.{byte-below-512}
use Rattle.decode.proofs.Sample.{Sampled, started, stopped, ignored, bit-taken, byte-taken, remembered}
use Rattle.laws.proofs.Bools.{both}
use Rattle.decode.proofs.Sample.{Falls, bit_taken, byte_taken}

-- samples that were seen and that no listed event has used up
abbrev pub credit : Decoder → ℕ
credit decoder =
    cond decoder.framed (cond decoder.marked 0 (2 * decoder.pending + 1 + bool_byte (scl decoder.last))) 0

-- the decoder where the events listed so far stand at a position
abbrev pub Stands : Position → Decoder → Type 0
Stands Between decoder = decoder.framed ≡ false
Stands Opened decoder = (decoder.framed ≡ true) × (decoder.marked ≡ true → decoder.pending ≡ 0)
Stands Within decoder = (decoder.framed ≡ true) × (decoder.marked ≡ false)
Stands Broken decoder = ⊥

-- what a sample lists, in a list that goes on with `rest` and is complete, is paid for
pub record Paid (before : Decoder) (list : List ℕ) (after : Decoder) (rest : List ℕ) : Type 0 where
  pub position : Position
  pub stands : Stands position after
  pub goes-on : complete_from position rest ≡ true
  pub cost : length (draw_events list) + credit after ≤ 1 + credit before

-- a complete list has no 515, so no bits were cut off
partial-breaks : (position : Position) → advance position partial_event ≡ Broken
unfolding advance
partial-breaks Between = refl
partial-breaks Opened = refl
partial-breaks Within = refl
partial-breaks Broken = refl

none-cut : (position : Position) (decoder : Decoder) (event : ℕ) (rest : List ℕ)
    → complete_from position (cut decoder ++ event ∷ [] ++ rest) ≡ true → cut decoder ≡ []
unfolding cut
none-cut position decoder event rest = by-test (eqb decoder.pending 0)
  where
    by-test : (test : Bool) → complete_from position (cond test [] (partial_event ∷ []) ++ event ∷ [] ++ rest) ≡ true
        → cond test [] (partial_event ∷ []) ≡ []
    by-test true whole = refl
    by-test false whole = never (event ∷ rest) (rw (partial-breaks position) at whole)

start-paid : (position : Position) (decoder : Decoder) (level : ℕ) (rest : List ℕ) → scl decoder.last ≡ true
    → Stands position decoder → complete_from position (start_of decoder.framed ∷ rest) ≡ true
    → Paid decoder (start_of decoder.framed ∷ []) (conditioned true level) rest
unfolding advance draw_event
start-paid Between decoder level rest high unframed whole =
    record {
      position = Opened;
      stands = (refl, λ marked. refl);
      goes-on = rw unframed at whole;
      cost = rw unframed (omega arith);
    }
start-paid Opened decoder level rest high (framed, _) whole = never rest (rw framed at whole)
start-paid Within decoder level rest high (framed, unmarked) whole =
    record {
      position = Opened;
      stands = (refl, λ marked. refl);
      goes-on = rw framed at whole;
      cost = rw (framed, unmarked, high) (omega arith);
    }
start-paid Broken decoder level rest high impossible whole = absurd impossible

stop-paid : (position : Position) (decoder : Decoder) (level : ℕ) (rest : List ℕ) → scl decoder.last ≡ true
    → decoder.framed ≡ true → Stands position decoder → complete_from position (stop_event ∷ rest) ≡ true
    → Paid decoder (stop_event ∷ []) (conditioned false level) rest
unfolding advance draw_event
stop-paid Between decoder level rest high framed unframed whole = absurd (false≢true (sym unframed ∙ framed))
stop-paid Opened decoder level rest high framed _ whole = never rest whole
stop-paid Within decoder level rest high framed (_, unmarked) whole =
    record { position = Between; stands = refl; goes-on = whole; cost = rw (framed, unmarked, high) (omega arith) }
stop-paid Broken decoder level rest high framed impossible whole = absurd impossible

ignored-paid : (position : Position) (decoder : Decoder) (level : ℕ) (rest : List ℕ) → decoder.framed ≡ false
    → Stands position decoder → complete_from position rest ≡ true → Paid decoder [] (conditioned false level) rest
ignored-paid Between decoder level rest unframed _ whole =
    record { position = Between; stands = refl; goes-on = whole; cost = omega arith }
ignored-paid Opened decoder level rest unframed (framed, _) whole = absurd (false≢true (sym unframed ∙ framed))
ignored-paid Within decoder level rest unframed (framed, _) whole = absurd (false≢true (sym unframed ∙ framed))
ignored-paid Broken decoder level rest unframed impossible whole = absurd impossible

-- a bit's two samples become those of a pending bit, and its fall is the low phase of the next
bit-cost : (decoder : Decoder) (level : ℕ) → Falls decoder level → credit (bit_taken decoder level) ≤ 1 + credit
    decoder
bit-cost decoder level fall = rw (fall.in_frame, fall.unmarked, fall.was-high, fall.is-low) (omega arith)

bit-paid : (position : Position) (decoder : Decoder) (level : ℕ) (rest : List ℕ) → Falls decoder level
    → Stands position decoder → complete_from position rest ≡ true → Paid decoder [] (bit_taken decoder level) rest
bit-paid Between decoder level rest fall unframed whole = absurd (false≢true (sym unframed ∙ fall.in_frame))
bit-paid Opened decoder level rest fall _ whole =
    record {
      position = Opened;
      stands = (refl, λ marked. absurd (false≢true marked));
      goes-on = whole;
      cost = omega (arith, bit-cost decoder level fall);
    }
bit-paid Within decoder level rest fall _ whole =
    record {
      position = Within;
      stands = (refl, refl);
      goes-on = whole;
      cost = omega (arith, bit-cost decoder level fall);
    }
bit-paid Broken decoder level rest fall impossible whole = absurd impossible

-- the samples of nine bits are those of the byte's drawing
byte-cost : (decoder : Decoder) (level event : ℕ) → Falls decoder level → ninth decoder ≡ true → is_byte event ≡ true
    → length (draw_events (event ∷ [])) + credit (byte_taken level) ≤ 1 + credit decoder
byte-cost decoder level event fall nine byte =
    let eight : decoder.pending ≡ 8 = eqb-true decoder.pending 8 nine in
    rw (fall.in_frame, fall.unmarked, fall.was-high, fall.is-low)
    (omega (arith, length-append (draw_event event) [], byte-length event byte))

byte-paid : (position : Position) (decoder : Decoder) (level event : ℕ) (rest : List ℕ) → Falls decoder level
    → ninth decoder ≡ true → is_byte event ≡ true
    → Stands position decoder → complete_from position (event ∷ rest) ≡ true
    → Paid decoder (event ∷ []) (byte_taken level) rest
unfolding advance
byte-paid Between decoder level event rest fall nine byte unframed whole =
    absurd (false≢true (sym unframed ∙ fall.in_frame))
byte-paid Opened decoder level event rest fall nine byte _ whole =
    record {
      position = Within;
      stands = (refl, refl);
      goes-on = rw byte at whole;
      cost = byte-cost decoder level event fall nine byte;
    }
byte-paid Within decoder level event rest fall nine byte _ whole =
    record {
      position = Within;
      stands = (refl, refl);
      goes-on = rw byte at whole;
      cost = byte-cost decoder level event fall nine byte;
    }
byte-paid Broken decoder level event rest fall nine byte impossible whole = absurd impossible

-- a sample that is only remembered begins at most one phase
seen-cost : (decoder : Decoder) (level : ℕ) → (decoder.marked ≡ true → decoder.pending ≡ 0)
    → credit (seen decoder level) ≤ 1 + credit decoder
seen-cost decoder level clear =
    by_tests decoder.framed refl decoder.marked refl (scl level) refl
  where
    by_tests : (framed : Bool) → decoder.framed ≡ framed → (marked : Bool) → decoder.marked ≡ marked
        → (high : Bool) → scl level ≡ high → credit (seen decoder level) ≤ 1 + credit decoder
    by_tests false unframed marked _ high _ = rw unframed (omega arith)
    by_tests true framed true marked true high = rw (framed, marked, high) (omega arith)
    by_tests true framed true marked false low = rw (framed, marked, low) (omega (arith, clear marked))
    by_tests true framed false unmarked high _ = rw (framed, unmarked) (omega (arith, bool-byte (scl level)))

seen-paid : (position : Position) (decoder : Decoder) (level : ℕ) (rest : List ℕ)
    → Stands position decoder → complete_from position rest ≡ true → Paid decoder [] (seen decoder level) rest
seen-paid Between decoder level rest unframed whole =
    record { position = Between; stands = unframed; goes-on = whole; cost = rw unframed (omega arith) }
seen-paid Opened decoder level rest (framed, clear) whole =
    record {
      position = Opened;
      stands = (framed, λ set. clear (both decoder.marked (scl level) set).0);
      goes-on = whole;
      cost = omega (arith, seen-cost decoder level clear);
    }
seen-paid Within decoder level rest (framed, unmarked) whole =
    record {
      position = Within;
      stands = (framed, rw unmarked);
      goes-on = whole;
      cost = omega (arith, seen-cost decoder level (λ marked. absurd (false≢true (sym unmarked ∙ marked))));
    }
seen-paid Broken decoder level rest impossible whole = absurd impossible

pub sample-paid : (position : Position) {decoder : Decoder} {level : ℕ} {list : List ℕ} {after : Decoder}
    (rest : List ℕ) → Sampled decoder level list after → Sound decoder
    → Stands position decoder → complete_from position (list ++ rest) ≡ true → Paid decoder list after rest
sample-paid position {decoder} {level} rest (started high) sound stands whole =
    let uncut : cut decoder ≡ [] = none-cut position decoder (start_of decoder.framed) rest whole in
    rw uncut (start-paid position decoder level rest high stands (rw uncut at whole))
sample-paid position {decoder} {level} rest (stopped high framed) sound stands whole =
    let uncut : cut decoder ≡ [] = none-cut position decoder stop_event rest whole in
    rw uncut (stop-paid position decoder level rest high framed stands (rw uncut at whole))
sample-paid position {decoder} {level} rest (ignored unframed) sound stands whole =
    ignored-paid position decoder level rest unframed stands whole
sample-paid position {decoder} {level} rest (bit-taken fall eighth) sound stands whole =
    bit-paid position decoder level rest fall stands whole
sample-paid position {decoder} {level} rest (byte-taken fall nine) sound stands whole =
    byte-paid position decoder level _ rest fall nine (lt-ltb _ 512 (byte-below-512 decoder sound nine)) stands whole
sample-paid position {decoder} {level} rest remembered sound stands whole =
    seen-paid position decoder level rest stands whole
