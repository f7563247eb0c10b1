-- The part that a place names: inside its block, and the board's message.
use Prim.Native.Nat.{ℕ, zero, suc, ◌+◌, ◌-◌, ◌≤◌, max}
use mathlib.Core.Path.{◌≡◌, refl, sym, ap, ◌∙◌}
use mathlib.Core.Bool.{Bool, cond, true, false, ◌||◌}
use mathlib.Core.List.{[]}
use native.Mathlib.Omega.{arith}
use lib.Dec.{eqb}
use borrow.Author.Tests.{eqb-true, ne_eqb, not-false}
use lib.ListN.{length, take, drop}
use Rattle.catalogue.specs.declared.places.Located.{Located}
use Rattle.catalogue.specs.Catalogue.{Catalogue, lists, number_of, chosen, message_of, refused_by, found_in, located}
use Rattle.catalogue.proofs.Judged.{Sound, sound, message-within, number_is}

-- nothing is refused
none-refused : (first second : ℕ) (absent : Bool)
    → cond (eqb first 0) (cond (eqb second 0) (cond absent 42 0) second) first ≡ 0
    → (first ≡ 0) × (second ≡ 0) × (absent ≡ false)
none-refused zero zero true none = absurd (omega (arith, none))
none-refused zero zero false none = (refl, refl, refl)
none-refused zero (suc second) absent none =
    absurd (omega (arith, rw (ne_eqb (suc second) 0 (λ e. omega (arith, e))) at none))
none-refused (suc first) second absent none =
    absurd (omega (arith, rw (ne_eqb (suc first) 0 (λ e. omega (arith, e))) at none))

module _ (board : ℕ) (corrections standing : Catalogue) where
  -- the number of a place is that of the refusal
  pub number-kept : (located board corrections standing).number ≡ number_of board corrections standing
  unfolding located
  number-kept = go (number_of board corrections standing) _ refl
    where
      go : (n : ℕ) (zero-so : Bool) → eqb n 0 ≡ zero-so
          → (cond zero-so (found_in board (lists board corrections) (chosen board corrections standing)) (refused_by n)
          ).number
          ≡ n
      go n true is = sym (eqb-true n 0 is)
      go n false is = refl

  -- a board that is found: both catalogues are sound, and one of them lists it
  pub record Found : Type 0 where
    pub corrected : Sound corrections
    pub stood : Sound standing
    pub listed : lists board corrections || lists board standing ≡ true

  pub found : number_of board corrections standing ≡ 0 → Found
  found none =
      let all = none-refused _ _ _ (sym (number_is board corrections standing) ∙ none) in
      record {
        corrected = sound corrections all.0;
        stood = sound standing all.1;
        listed = not-false (lists board corrections || lists board standing) all.2;
      }

  module _ (place : Located) (is : place ≡ located board corrections standing) where
    number-of : place.number ≡ number_of board corrections standing
    number-of = rw is number-kept

    pub empty-part : (place.number ≡ 0 → ⊥) → [] ≡ message_of board corrections standing
    unfolding message_of
    empty-part some = rw (ne_eqb (number_of board corrections standing) 0 (λ e. some (number-of ∙ e))) refl

    module _ (none : place.number ≡ 0) where
      unrefused : number_of board corrections standing ≡ 0
      unrefused = sym number-of ∙ none

      place_is : place ≡ found_in board (lists board corrections) (chosen board corrections standing)
      unfolding located
      place_is = is ∙ rw unrefused refl

      abbrev Lies : Catalogue → Type 0
      Lies catalogue =
          (place.offset + place.length ≤ length catalogue.block)
          × (take (place.offset + place.length - place.offset) (drop place.offset catalogue.block)
          ≡ message_of board corrections standing)

      long : place.offset + place.length - place.offset ≡ place.length
      long = omega arith

      corrects : place.corrected ≡ lists board corrections
      corrects = ap (λ (p : Located). p.corrected) place_is

      pub corrected-part : place.corrected ≡ true → Lies corrections
      unfolding message_of
      corrected-part corrected =
          let listed = sym corrects ∙ corrected in
          let here : place ≡ found_in board true corrections = rw listed at place_is in (
            rw here (message-within board corrections (found unrefused).corrected listed),
            rw (long, here, unrefused, listed) refl,
          )

      pub standing-part : place.corrected ≡ false → Lies standing
      unfolding message_of
      standing-part stood =
          let unlisted = sym corrects ∙ stood in
          let here : place ≡ found_in board false standing = rw unlisted at place_is in (
            rw here (message-within board standing (found unrefused).stood (rw unlisted at (found unrefused).listed)),
            rw (long, here, unrefused, unlisted) refl,
          )

      -- so the sum of offset and length is that of an index in one of the blocks
      pub end-within : place.offset + place.length ≤ max (length corrections.block) (length standing.block)
      end-within = go place.corrected refl
        where
          go : (corrected : Bool) → place.corrected ≡ corrected
              → place.offset + place.length ≤ max (length corrections.block) (length standing.block)
          go true corrected = omega (arith, (corrected-part corrected).0)
          go false stood = omega (arith, (standing-part stood).0)
