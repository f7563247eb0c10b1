-- The loops over a capture that keep what changes a level: what holds before each sample, and what a turn does.
use Prim.Native.Nat.{ℕ, ◌+◌, ◌≤◌, ◌<◌}
use native.Mathlib.Numerals.{add-one}
use native.Mathlib.Omega.{arith}
use mathlib.Core.Path.{◌≡◌, refl, ap, ◌∙◌}
use mathlib.Core.Bool.{Bool, true, false, cond, not}
use mathlib.Core.List.{List, [], ◌∷◌, ◌++◌, map, map-append}
use mir.Val.{bool_byte}
use lib.Dec.{eqb}
use lib.ListN.{length, get_or, drop, drop_of_length-le, length-map}
use lib.Seq.{sets}
use borrow.Author.Tests.{ne_eqb, ltb-false}
use Rattle.laws.specs.Buffer.{filled}
use Rattle.laws.specs.Search.{any}
use Rattle.laws.proofs.Bools.{neither}
use Rattle.laws.proofs.Buffer.{Progress, progress-more}
use Rattle.laws.proofs.Buffer.{Writing, writing-long, writing-room, writing_more, writing-done}
use Rattle.levels.specs.Levels.{max_level}
use Rattle.trace.specs.Samples.{samples, levels_of}
use Rattle.trace.specs.Trace.{bad_level}
use Rattle.trace.proofs.Samples.{samples-drop, samples-length}
use Rattle.trace.specs.Changes.{kept, changes_from, thinned}

-- one sample is kept, or none
pub kept-length : (last stamp level : ℕ) → length (kept last (stamp, level)) ≡ bool_byte (not (eqb level last))
kept-length last stamp level = go (eqb level last)
  where
    go : (same : Bool) → length {A = ℕ × ℕ} (cond same [] ((stamp, level) ∷ [])) ≡ bool_byte (not same)
    go true = refl
    go false = refl

-- the first sample differs from a level that no sample has
pub thinned-from : (list : List (ℕ × ℕ)) → any bad_level (levels_of list) ≡ false → changes_from 4 list ≡ thinned list
thinned-from [] legal = refl
thinned-from (sample ∷ list) legal =
    let two = neither (bad_level sample.1) (any bad_level (levels_of list)) legal in
    let low : sample.1 ≤ max_level = ltb-false max_level sample.1 two.0 in
    rw (ne_eqb sample.1 4 (λ e. omega arith))

module _ (stamps levels : List ℕ) (same : length stamps ≡ length levels) where
  -- the next sample, kept or not, and what follows it
  pub rest_more : (last i : ℕ) → i < length stamps → changes_from last (drop i (samples stamps levels))
      ≡ kept last (get_or stamps i 0, get_or levels i 0)
      ++ changes_from (get_or levels i 0) (drop (i + 1) (samples stamps levels))
  rest_more last i less = rw add-one (ap (changes_from last) (samples-drop stamps levels i less same))

  pub rest-none : (last i : ℕ) → length stamps ≤ i → changes_from last (drop i (samples stamps levels)) ≡ []
  rest-none last i end =
      ap (changes_from last)
      (drop_of_length-le (samples stamps levels) {i = i} (rw (samples-length stamps levels same) end))

  -- the count of those passed
  pub counted-more : (last found i : ℕ) → i < length stamps
      → Progress (changes_from 4 (samples stamps levels)) (changes_from last (drop i (samples stamps levels))) found
      → Progress (changes_from 4 (samples stamps levels))
      (changes_from (get_or levels i 0) (drop (i + 1) (samples stamps levels)))
      (found + bool_byte (not (eqb (get_or levels i 0) last)))
  counted-more last found i less progress =
      rw (← kept-length last (get_or stamps i 0) (get_or levels i 0))
      (progress-more _ _ (kept last (get_or stamps i 0, get_or levels i 0)) _ found (rest_more last i less) progress)

  -- the buffers: of each sample kept what f says of it
  module _ (f : ℕ × ℕ → ℕ) (buffer₀ : List ℕ)
      (enough : length (changes_from 4 (samples stamps levels)) ≤ length buffer₀) where
    abbrev pub Keeping : List ℕ → ℕ → ℕ → ℕ → Type 0
    Keeping buffer last found i =
        Writing (map f (changes_from 4 (samples stamps levels)))
        (map f (changes_from last (drop i (samples stamps levels)))) buffer₀ buffer found

    room : length (map f (changes_from 4 (samples stamps levels))) ≤ length buffer₀
    room = rw (length-map (changes_from 4 (samples stamps levels)) f) enough

    module _ (buffer : List ℕ) (last found i : ℕ) (keeping : Keeping buffer last found i) where
      pub keeping-long : length buffer ≡ length buffer₀
      keeping-long = writing-long _ _ buffer₀ buffer found room keeping

      module _ (less : i < length stamps) where
        abbrev next : ℕ × ℕ
        next = (get_or stamps i 0, get_or levels i 0)

        split : map f (changes_from last (drop i (samples stamps levels)))
            ≡ map f (kept last next)
            ++ map f (changes_from (get_or levels i 0) (drop (i + 1) (samples stamps levels)))
        split =
            ap (map f) (rest_more last i less)
            ∙ map-append f (kept last next) (changes_from (get_or levels i 0) (drop (i + 1) (samples stamps levels)))

        pub keeping-room : found + length (kept last next) ≤ length buffer
        keeping-room =
            rw (length-map (kept last next) f) at
            (writing-room _ _ buffer₀ buffer found room keeping (map f (kept last next)) _ split)

        pub keeping-more : Keeping (sets buffer found (map f (kept last next))) (get_or levels i 0)
            (found + length (kept last next)) (i + 1)
        keeping-more =
            rw (length-map (kept last next) f) at
            (writing_more _ _ buffer₀ buffer found room keeping (map f (kept last next)) _ split)

      pub keeping-done : length stamps ≤ i → buffer ≡ filled (map f (changes_from 4 (samples stamps levels))) buffer₀
      keeping-done end = writing-done _ _ buffer₀ buffer found room keeping (ap (map f) (rest-none last i end))
