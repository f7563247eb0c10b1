-- What one sample does to the decoder, taken apart into the six things that can happen.
use Prim.Native.Nat.{ℕ, ◌+◌, ◌*◌}
use mathlib.Core.Path.{◌≡◌, refl, sym, ◌∙◌}
use mathlib.Core.Bool.{Bool, true, false, cond, not, ◌&&◌, false≢true}
use mathlib.Core.List.{List, [], ◌∷◌, ◌++◌}
use borrow.Author.Tests.{not-true}
use mir.Val.{bool_byte}
use Rattle.decode.specs.declared.Decoder.{Decoder}
use Rattle.levels.specs.Levels.{scl, sda, starts, stops}
use Rattle.laws.proofs.Bools.{both}
use Rattle.trace.specs.Events.{byte_event, stop_event}
use Rattle.decode.specs.Decode.{takes, bit, ninth, conditioned, with_bit, seen, next, cut, start_of, lists}

-- SCL falls in an open frame, and no START or STOP fell in its high phase
pub record Falls (decoder : Decoder) (level : ℕ) : Type 0 where
  pub was-high : scl decoder.last ≡ true
  pub is-low : scl level ≡ false
  pub in_frame : decoder.framed ≡ true
  pub unmarked : decoder.marked ≡ false

-- the decoder after a bit that is not the ninth, and after the ninth
abbrev pub bit_taken : Decoder → ℕ → Decoder
bit_taken decoder level =
    record {
      last = level;
      framed = true;
      marked = false;
      pending = decoder.pending + 1;
      value = 2 * decoder.value + bool_byte (bit decoder);
    }

abbrev pub byte_taken : ℕ → Decoder
byte_taken level = record { last = level; framed = true; marked = false; pending = 0; value = 0 }

-- a sample lists these events and leaves this decoder
pub data Sampled (decoder : Decoder) (level : ℕ) : List ℕ → Decoder → Type 0 where
  started : scl decoder.last ≡ true
      → Sampled decoder level (cut decoder ++ start_of decoder.framed ∷ []) (conditioned true level)
  stopped : scl decoder.last ≡ true → decoder.framed ≡ true
      → Sampled decoder level (cut decoder ++ stop_event ∷ []) (conditioned false level)
  ignored : decoder.framed ≡ false → Sampled decoder level [] (conditioned false level)
  bit-taken : Falls decoder level → ninth decoder ≡ false → Sampled decoder level [] (bit_taken decoder level)
  byte-taken : Falls decoder level → ninth decoder ≡ true
      → Sampled decoder level (byte_event decoder.value (bit decoder) ∷ []) (byte_taken level)
  remembered : Sampled decoder level [] (seen decoder level)

-- SCL is the first of four tests
first-true : (a b c d : Bool) → a && b && c && d ≡ true → a ≡ true
first-true a b c d test = (both a b (both (a && b) c (both (a && b && c) d test).0).0).0

starts-high : (before level : ℕ) → starts before level ≡ true → scl before ≡ true
unfolding starts
starts-high before level = first-true (scl before) (scl level) (sda before) (not (sda level))

stops-high : (before level : ℕ) → stops before level ≡ true → scl before ≡ true
unfolding stops
stops-high before level = first-true (scl before) (scl level) (not (sda before)) (sda level)

takes-falls : (decoder : Decoder) (level : ℕ) → takes decoder level ≡ true → Falls decoder level
unfolding takes
takes-falls decoder level test =
    let (falling, unmarked) = both _ (not decoder.marked) test in
    let (fall, in_frame) = both _ decoder.framed falling in
    let (was-high, is-low) = both (scl decoder.last) (not (scl level)) fall in
    record {
      was-high = was-high;
      is-low = not-true (scl level) is-low;
      in_frame = in_frame;
      unmarked = not-true decoder.marked unmarked;
    }

pub sampled : (decoder : Decoder) (level : ℕ) → Sampled decoder level (lists decoder level) (next decoder level)
unfolding lists next with_bit
sampled decoder level =
    by_tests (starts decoder.last level) refl (stops decoder.last level) refl decoder.framed refl
    (takes decoder level) refl (ninth decoder) refl
  where
    by_tests : (start : Bool) → starts decoder.last level ≡ start
        → (stop : Bool) → stops decoder.last level ≡ stop → (framed : Bool) → decoder.framed ≡ framed
        → (taken : Bool) → takes decoder level ≡ taken → (nine : Bool) → ninth decoder ≡ nine
        → Sampled decoder level
        (cond start (cut decoder ++ start_of decoder.framed ∷ [])
        (cond (stop && framed) (cut decoder ++ stop_event ∷ [])
        (cond (taken && nine) (byte_event decoder.value (bit decoder) ∷ []) [])))
        (cond start (conditioned true level)
        (cond stop (conditioned false level)
        (cond taken (cond nine (byte_taken level) (bit_taken decoder level)) (seen decoder level))))
    by_tests true start stop _ framed _ taken _ nine _ = started (starts-high decoder.last level start)
    by_tests false _ true stop true framed taken _ nine _ = stopped (stops-high decoder.last level stop) framed
    by_tests false _ true _ false unframed false _ nine _ = ignored unframed
    by_tests false _ true _ false unframed true taken nine _ =
        absurd (false≢true (sym unframed ∙ (takes-falls decoder level taken).in_frame))
    by_tests false _ false _ framed _ true taken true nine = byte-taken (takes-falls decoder level taken) nine
    by_tests false _ false _ framed _ true taken false nine = bit-taken (takes-falls decoder level taken) nine
    by_tests false _ false _ framed _ false _ nine _ = remembered
