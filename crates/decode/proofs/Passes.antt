-- The passes over a trace: what holds of the decoder after the first i samples, and what is left to list.
use mathlib.Core.Path.{◌≡◌, refl, sym, ap, ◌∙◌}
use mathlib.Core.List.{List, [], ◌++◌}
use Prim.Native.Nat.{ℕ, ◌+◌, ◌*◌, ◌≤◌, ◌<◌}
use native.Mathlib.Numerals.{add-one}
use native.Mathlib.Omega.{arith}
use lib.ListN.{length, get_or, drop, drop_of_length-le}
use lib.Seq.{drop-cons}
use Rattle.decode.specs.declared.Decoder.{Decoder}
use Rattle.decode.specs.declared.Listed.{Listed}
use Rattle.decode.specs.declared.Listed.TheVariants.{Nothing, One, Two}
use Rattle.decode.specs.declared.Stepped.{Stepped}
use Rattle.decode.specs.Decode.{idle, after, listed, final}
use Rattle.decode.specs.Stepping.{Sound, Steps, list_of}
use Rattle.decode.proofs.Sound.{idle-sound, next-sound}

-- the first i samples led to this decoder, and listed as many events as count
pub record Passed (levels : List ℕ) (decoder : Decoder) (count i : ℕ) : Type 0 where
  pub within : i ≤ length levels
  pub sound : Sound decoder
  pub few : count ≤ 2 * i
  pub last : final levels ≡ after decoder (drop i levels)

pub passed_none : (levels : List ℕ) → Passed levels idle 0 0
passed_none levels = record { within = omega arith; sound = idle-sound; few = omega arith; last = refl }

-- a sample lists two events at most
pub at_most_two : (step : Listed) → length (list_of step) ≤ 2
at_most_two Nothing = omega arith
at_most_two (One event) = omega arith
at_most_two (Two first second) = omega arith

module _ (levels : List ℕ) (decoder : Decoder) (i : ℕ) where
  module _ (answer : Stepped) (steps : Steps decoder (get_or levels i 0) answer) (h : i < length levels) where
    pub passed-more : {count : ℕ} → Passed levels decoder count i
        → Passed levels answer.decoder (count + length (list_of answer.listed)) (i + 1)
    passed-more passed =
        rw steps.decoder_is
        (record {
          within = omega arith;
          sound = next-sound decoder (get_or levels i 0) passed.sound;
          few = omega (arith, passed.few, at_most_two answer.listed);
          last = passed.last ∙ ap (after decoder) (drop-cons levels i 0 h) ∙ rw add-one refl;
        })

    -- what is left to list is what this sample lists, and what is left then
    pub left-more : listed decoder (drop i levels)
        ≡ list_of answer.listed ++ listed answer.decoder (drop (i + 1) levels)
    left-more =
        rw (steps.decoder_is, steps.listed_is, add-one) (ap (listed decoder) (drop-cons levels i 0 h))

  -- after the last sample nothing is left
  pub left-none : length levels ≤ i → listed decoder (drop i levels) ≡ []
  left-none h = ap (listed decoder) (drop_of_length-le levels h)

  pub passed-last : {count : ℕ} → length levels ≤ i → Passed levels decoder count i → decoder ≡ final levels
  passed-last h passed = sym (passed.last ∙ ap (after decoder) (drop_of_length-le levels h))
