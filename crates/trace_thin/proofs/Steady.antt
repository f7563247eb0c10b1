-- A sample that changes no level changes nothing that the decoder knows, and lists nothing.
use Prim.Native.Nat.{ℕ}
use mathlib.Core.Path.{◌≡◌, refl, sym, ap, ◌∙◌}
use mathlib.Core.Bool.{Bool, true, false, cond, not, ◌&&◌}
use mathlib.Core.List.{List, [], ◌∷◌, ◌++◌}
use lib.Dec.{eqb}
use borrow.Author.Tests.{eqb-true}
use Rattle.laws.proofs.Bools.{both}
use Rattle.levels.specs.Levels.{scl, sda, starts, stops}
use Rattle.trace.specs.Samples.{levels_of}
use Rattle.decode.specs.declared.Decoder.{Decoder}
use Rattle.decode.specs.Decode.{idle, takes, ninth, conditioned, with_bit, seen, next, lists, after, listed}
use Rattle.decode.specs.Decode.{events, final}
use Rattle.decode.proofs.Sample.{Sampled, started, stopped, ignored, bit-taken, byte-taken, remembered}
use Rattle.decode.proofs.Sample.{bit_taken, byte_taken, sampled}
use Rattle.trace.specs.Changes.{changes_from, thinned}

-- a START or STOP is marked only while SCL is high
abbrev pub Steady : Decoder → Type 0
Steady decoder = decoder.marked && scl decoder.last ≡ decoder.marked

second-true : (a b c d : Bool) → a && b && c && d ≡ true → b ≡ true
second-true a b c d test = (both a b (both (a && b) c (both (a && b && c) d test).0).0).1

starts-now : (before level : ℕ) → starts before level ≡ true → scl level ≡ true
unfolding starts
starts-now before level = second-true (scl before) (scl level) (sda before) (not (sda level))

stops-now : (before level : ℕ) → stops before level ≡ true → scl level ≡ true
unfolding stops
stops-now before level = second-true (scl before) (scl level) (not (sda before)) (sda level)

again : (a b : Bool) → a && b && b ≡ a && b
again true true = refl
again true false = refl
again false b = refl

-- every sample leaves the decoder so
pub next-steady : (decoder : Decoder) (level : ℕ) → Steady (next decoder level)
unfolding next with_bit
next-steady decoder level =
    by_tests (starts decoder.last level) refl (stops decoder.last level) refl (takes decoder level) (ninth decoder)
  where
    by_tests : (start : Bool) → starts decoder.last level ≡ start
        → (stop : Bool) → stops decoder.last level ≡ stop → (taken nine : Bool)
        → Steady (cond start (conditioned true level) (cond stop (conditioned false level)
        (cond taken (cond nine (byte_taken level) (bit_taken decoder level)) (seen decoder level))))
    by_tests true start stop _ taken nine = starts-now decoder.last level start
    by_tests false _ true stop taken nine = stops-now decoder.last level stop
    by_tests false _ false _ true true = refl
    by_tests false _ false _ true false = refl
    by_tests false _ false _ false nine = again decoder.marked (scl level)

last-is : {decoder after : Decoder} {level : ℕ} {some : List ℕ} → Sampled decoder level some after → after.last ≡ level
last-is (started high) = refl
last-is (stopped high framed) = refl
last-is (ignored unframed) = refl
last-is (bit-taken falls other) = refl
last-is (byte-taken falls nine) = refl
last-is remembered = refl

pub next_last : (decoder : Decoder) (level : ℕ) → (next decoder level).last ≡ level
next_last decoder level = last-is (sampled decoder level)

never-start : (a b : Bool) → a && a && b && not b ≡ false
never-start true true = refl
never-start true false = refl
never-start false b = refl

never-stop : (a b : Bool) → a && a && not b && b ≡ false
never-stop true true = refl
never-stop true false = refl
never-stop false b = refl

never-fall : (a b c : Bool) → a && not a && b && c ≡ false
never-fall true b c = refl
never-fall false b c = refl

no_start : (level : ℕ) → starts level level ≡ false
unfolding starts
no_start level = never-start (scl level) (sda level)

no_stop : (level : ℕ) → stops level level ≡ false
unfolding stops
no_stop level = never-stop (scl level) (sda level)

no-bit : (decoder : Decoder) → takes decoder decoder.last ≡ false
unfolding takes
no-bit decoder = never-fall (scl decoder.last) decoder.framed (not decoder.marked)

-- the same level again
pub same_next : (decoder : Decoder) → Steady decoder → next decoder decoder.last ≡ decoder
unfolding next
same_next decoder steady =
    rw (no_start decoder.last, no_stop decoder.last, no-bit decoder)
    (ap (λ (marked : Bool). with-mark marked) steady)
  where
    with-mark : Bool → Decoder
    with-mark marked =
        record {
          last = decoder.last;
          framed = decoder.framed;
          marked = marked;
          pending = decoder.pending;
          value = decoder.value;
        }

pub same_lists : (decoder : Decoder) → lists decoder decoder.last ≡ []
unfolding lists
same_lists decoder = rw (no_start decoder.last, no_stop decoder.last, no-bit decoder)

-- what was listed and where the decoder stands, with and without the samples that change no level
abbrev Alike : Decoder → List ℕ → List ℕ → Type 0
Alike decoder some whole = (listed decoder some ≡ listed decoder whole) × (after decoder some ≡ after decoder whole)

changes-alike : (decoder : Decoder) (last : ℕ) (list : List (ℕ × ℕ)) → Steady decoder → decoder.last ≡ last
    → Alike decoder (levels_of (changes_from last list)) (levels_of list)
changes-alike decoder last [] steady is = (refl, refl)
changes-alike decoder last (sample ∷ list) steady is =
    by-test (eqb sample.1 last) refl (changes-alike decoder sample.1 list steady)
    (changes-alike (next decoder sample.1) sample.1 list (next-steady decoder sample.1)
    (next_last decoder sample.1))
  where
    by-test : (same : Bool) → eqb sample.1 last ≡ same
        → (decoder.last ≡ sample.1 → Alike decoder (levels_of (changes_from sample.1 list)) (levels_of list))
        → Alike (next decoder sample.1) (levels_of (changes_from sample.1 list)) (levels_of list)
        → Alike decoder (levels_of (cond same [] (sample ∷ []) ++ changes_from sample.1 list)) (levels_of (sample ∷ list))
    by-test true same dropped taken =
        let level : decoder.last ≡ sample.1 = is ∙ sym (eqb-true sample.1 last same) in
        let rest = dropped level in
        let lists-none : lists decoder sample.1 ≡ [] = rw (← level) (same_lists decoder) in
        let stays : next decoder sample.1 ≡ decoder = rw (← level) (same_next decoder steady) in
        (rw (lists-none, stays) rest.0, rest.1 ∙ sym (ap (λ (d : Decoder). after d (levels_of list)) stays))
    by-test false other dropped taken =
        (ap (λ (l : List ℕ). lists decoder sample.1 ++ l) taken.0, taken.1)

-- dropping samples that change no level changes no event, and nothing that the decoder knows at the end
pub thinned-alike : (list : List (ℕ × ℕ))
    → (events (levels_of (thinned list)) ≡ events (levels_of list))
    × (final (levels_of (thinned list)) ≡ final (levels_of list))
thinned-alike [] = (refl, refl)
thinned-alike (sample ∷ list) =
    let rest =
    changes-alike (next idle sample.1) sample.1 list (next-steady idle sample.1) (next_last idle sample.1) in
    (ap (λ (l : List ℕ). lists idle sample.1 ++ l) rest.0, rest.1)
