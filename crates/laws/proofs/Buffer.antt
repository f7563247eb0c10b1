-- A buffer that is filled from its start, at once or piece by piece: what holds at the loop's head.
use mathlib.Core.Path.{◌≡◌, refl, sym, ap, ◌∙◌}
use mathlib.Core.List.{List, [], ◌∷◌, ◌++◌, append_assoc, append-nil}
use Prim.Native.Nat.{ℕ, ◌+◌, ◌≤◌, ◌<◌}
use native.Mathlib.Omega.{arith}
use lib.ListN.{length, drop, set, length-append, length-drop}
use lib.Seq.{sets, sets-eq, take_at, drop-drop, drop-append-add}
use Rattle.laws.specs.Buffer.{filled}

module _ {A : Type 0} where
  -- it keeps its length
  pub length-filled : (front buffer : List A) → length front ≤ length buffer
      → length (filled front buffer) ≡ length buffer
  length-filled front buffer h = rw (length-append, length-drop) (omega arith)

  -- what is stored after the front joins it
  pub filled_more : (front more buffer : List A) (n : ℕ) → length front ≡ n → n + length more ≤ length buffer
      → sets (filled front buffer) n more ≡ filled (front ++ more) buffer
  filled_more front more buffer n e h =
      let long : length (filled front buffer) ≡ length buffer = length-filled front buffer (omega arith) in
      let fits : n + length more ≤ length (filled front buffer) = omega arith in
      let over = drop-append-add front (drop (length front) buffer) (length more) in
      let rest : drop (n + length more) (filled front buffer) ≡ drop (length (front ++ more)) buffer =
      rw (← e, length-append) (over ∙ drop-drop (length more) (length front) buffer) in
      sets-eq more (filled front buffer) n fits ∙ rw (take_at front (drop (length front) buffer) n e, rest)

  -- what stood under the front's first element does not count
  pub filled-first : (v w : A) (front buffer : List A)
      → filled (v ∷ front) (set buffer 0 w) ≡ filled (v ∷ front) buffer
  filled-first v w front [] = refl
  filled-first v w front (x ∷ buffer) = refl

  -- of the whole list, as many as count are done, and this rest is left
  pub record Progress (whole rest : List A) (count : ℕ) : Type 0 where
    pub done : List A
    pub long : length done ≡ count
    pub parts : whole ≡ done ++ rest

  pub progress-none : (whole : List A) → Progress whole whole 0
  progress-none whole = record { done = []; long = refl; parts = refl }

  module _
      (whole rest piece next : List A)
      (count : ℕ)
      (split : rest ≡ piece ++ next)
      (progress : Progress whole rest count)
    where
      pub progress-more : Progress whole next (count + length piece)
      progress-more =
          record {
            done = progress.done ++ piece;
            long = length-append progress.done piece ∙ ap (λ (n : ℕ). n + length piece) progress.long;
            parts = progress.parts ∙ ap (λ (l : List A). progress.done ++ l) split
                ∙ sym (append_assoc progress.done piece next);
          }

      -- the next piece has room wherever the whole has
      pub progress-room : count + length piece ≤ length whole
      unfolding progress-more
      progress-room =
          let more : length whole ≡ length ((progress.done ++ piece) ++ next) = ap length progress-more.parts in
          rw more (rw (length-append, length-append) (omega (arith, progress.long)))

  module _ (whole rest : List A) (count : ℕ) (empty : rest ≡ []) (progress : Progress whole rest count) where
    pub progress-whole : whole ≡ progress.done
    progress-whole = progress.parts ∙ ap (λ (l : List A). progress.done ++ l) empty ∙ append-nil progress.done

    pub progress-done : count ≡ length whole
    progress-done = sym progress.long ∙ ap length (sym progress-whole)

  -- the buffer starts with what is done, and its rest stays
  pub record Writing (whole rest buffer₀ buffer : List A) (count : ℕ) : Type 0 where
    pub progress : Progress whole rest count
    pub front : buffer ≡ filled progress.done buffer₀

  pub writing-none : (whole buffer : List A) → Writing whole whole buffer buffer 0
  unfolding progress-none
  writing-none whole buffer = record { progress = progress-none whole; front = refl }

  -- the first element was stored before the loop
  pub writing-first : (v : A) (rest buffer : List A) → 0 < length buffer
      → Writing (v ∷ rest) rest (set buffer 0 v) (set buffer 0 v) 1
  writing-first v rest [] h = absurd (omega arith)
  writing-first v rest (x ∷ buffer) h =
      record { progress = record { done = v ∷ []; long = refl; parts = refl }; front = refl }

  module _
      (whole rest buffer₀ buffer : List A)
      (count : ℕ)
      (enough : length whole ≤ length buffer₀)
      (writing : Writing whole rest buffer₀ buffer count)
    where
      pub writing-long : length buffer ≡ length buffer₀
      writing-long =
          let more : length whole ≡ length (writing.progress.done ++ rest) = ap length writing.progress.parts in
          let fits : length writing.progress.done ≤ length buffer₀ =
          omega (arith, more, length-append writing.progress.done rest) in
          ap length writing.front ∙ length-filled writing.progress.done buffer₀ fits

      module _ (piece next : List A) (split : rest ≡ piece ++ next) where
        pub writing-room : count + length piece ≤ length buffer
        writing-room = omega (
          arith,
          writing-long,
          progress-room whole rest piece next count split
              writing.progress,
        )

        pub writing_more : Writing whole next buffer₀ (sets buffer count piece) (count + length piece)
        unfolding progress-more
        writing_more =
            let fits : count + length piece ≤ length buffer₀ = omega (arith, writing-long, writing-room) in
            record {
              progress = progress-more whole rest piece next count split writing.progress;
              front = ap (λ (l : List A). sets l count piece) writing.front
                  ∙ filled_more writing.progress.done piece buffer₀ count writing.progress.long fits;
            }

      pub writing-done : rest ≡ [] → buffer ≡ filled whole buffer₀
      writing-done empty =
          let all = progress-whole whole rest count empty writing.progress in
          writing.front ∙ ap (λ (l : List A). filled l buffer₀) (sym all)
