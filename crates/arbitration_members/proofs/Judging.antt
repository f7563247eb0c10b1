-- Who loses in a bit turn: the loop over the masters.
use Prim.Native.Nat.{ℕ, ◌+◌, ◌<◌, ◌≤◌}
use mathlib.Core.Path.{◌≡◌, refl, sym, ap, ◌∙◌}
use mathlib.Core.Bool.{Bool, false, not, ◌&&◌, ◌||◌}
use mathlib.Core.List.{List, zip_with}
use native.Mathlib.Omega.{arith}
use lib.ListN.{length, get_or, set}
use Rattle.laws.proofs.Lists.{zip_with-at, zip_with-length}
use Rattle.laws.proofs.Loops.{zipped, zipped-at, zipped-more, paired-all}
use Rattle.arbitration_rules.specs.Limits.{max_masters}
use Rattle.arbitration_members.specs.Members.{losing, lost_at, judged}

abbrev pub remains : Bool → Bool → Bool
remains still set = still && not set

abbrev pub joins : Bool → Bool → Bool
joins before loses = before || loses

abbrev pub both : Bool → Bool → Bool
both still set = still && set

module _ (position : ℕ) (al contending₀ lost₀ : List Bool) (positions₀ : List ℕ) where
  -- the first i masters are judged
  pub record Judging (contending lost : List Bool) (positions : List ℕ) (i : ℕ) : Type 0 where
    pub within : i ≤ max_masters
    pub still : contending ≡ zipped remains contending₀ al i
    pub out : lost ≡ zipped joins lost₀ (losing contending₀ al) i
    pub places : positions ≡ zipped (lost_at position) positions₀ (losing contending₀ al) i

  pub judging-start : Judging contending₀ lost₀ positions₀ 0
  unfolding zip_with
  judging-start = record { within = omega arith; still = refl; out = refl; places = refl }

  -- a place for each master
  pub record Places : Type 0 where
    pub of-al : length al ≡ max_masters
    pub of-contending : length contending₀ ≡ max_masters
    pub of-lost : length lost₀ ≡ max_masters
    pub of-positions : length positions₀ ≡ max_masters

  module _ (places : Places) (contending lost : List Bool) (positions : List ℕ) (i : ℕ)
      (judging : Judging contending lost positions i) where
    sized : length (losing contending₀ al) ≡ max_masters
    sized =
        omega (arith, zip_with-length both contending₀ al, places.of-al, places.of-contending)

    pub judging-more : i < max_masters
        → let loses = get_or contending i false && get_or al i false in
        Judging (set contending i (get_or contending i false && not (get_or al i false)))
        (set lost i (get_or lost i false || loses))
        (set positions i (lost_at position (get_or positions i 0) loses)) (i + 1)
    judging-more less =
        let less-al : i < length al = omega (arith, places.of-al) in
        let less-still : i < length contending₀ = omega (arith, places.of-contending) in
        let less-out : i < length lost₀ = omega (arith, places.of-lost) in
        let less-places : i < length positions₀ = omega (arith, places.of-positions) in
        let less-losing : i < length (losing contending₀ al) = omega (arith, sized) in
        let same : get_or contending i false ≡ get_or contending₀ i false =
        ap (λ (l : List Bool). get_or l i false) judging.still ∙ zipped-at remains contending₀ al i false less-al in
        let loses : get_or contending i false && get_or al i false ≡ get_or (losing contending₀ al) i false =
        ap (λ (b : Bool). b && get_or al i false) same
        ∙ sym (zip_with-at both contending₀ al i false false false less-still less-al) in
        record {
          within = omega arith;
          still = zipped-more remains contending₀ contending al i false _ false judging.still refl less-still
              less-al;
          out =
              zipped-more joins lost₀ lost (losing contending₀ al) i false _ false judging.out
              (ap (λ (b : Bool). get_or lost i false || b) loses) less-out less-losing;
          places =
              zipped-more (lost_at position) positions₀ positions (losing contending₀ al) i 0 _ false judging.places
              (ap (λ (b : Bool). lost_at position (get_or positions i 0) b) loses) less-places less-losing;
        }

    pub judging-done : (bytes sizes : List ℕ) → max_masters ≤ i
        → record { contending = contending; lost = lost; positions = positions; bytes = bytes; sizes = sizes }
        ≡ judged position al
        (record {
          contending = contending₀;
          lost = lost₀;
          positions = positions₀;
          bytes = bytes;
          sizes = sizes;
        })
    unfolding judged
    judging-done bytes sizes done =
        let all-al : length al ≤ i = omega (arith, places.of-al) in
        let all-still : length contending₀ ≤ i = omega (arith, places.of-contending) in
        let all-out : length lost₀ ≤ i = omega (arith, places.of-lost) in
        let all-places : length positions₀ ≤ i = omega (arith, places.of-positions) in
        let all-losing : length (losing contending₀ al) ≤ i = omega (arith, sized) in
        rw (
          paired-all remains contending₀ al contending₀ contending i judging.still all-still all-al all-still,
          paired-all joins lost₀ (losing contending₀ al) lost₀ lost i judging.out all-out all-losing all-out,
          paired-all (lost_at position) positions₀ (losing contending₀ al) positions₀ positions i judging.places
              all-places all-losing all-places,
        )
