-- What the numbers mean, both ways: a board is found exactly where both catalogues are sound and one of them lists it;
-- its index is its only one; a correction comes before the standing message.
use Prim.Native.Nat.{ℕ, suc, ◌<◌}
use mathlib.Core.Path.{◌≡◌, refl, sym, ap, ap₂, ◌∙◌}
use mathlib.Core.Bool.{Bool, cond, true, false, not, ◌||◌, false≢true}
use mathlib.Core.List.{List, [], ◌∷◌}
use native.Mathlib.Omega.{arith}
use lib.Dec.{eqb}
use borrow.Author.Tests.{eqb-true, eq-eqb, ltb-true}
use lib.ListN.{length, get_or}
use Rattle.laws.specs.declared.Refusal.{Refusal}
use Rattle.laws.specs.Search.{first, any}
use Rattle.laws.proofs.Refusals.{unrefused}
use Rattle.laws.proofs.Search.{any-first}
use Rattle.catalogue.specs.Catalogue.{Catalogue, bad_lengths, catalogue_checks, judged, is, lists}
use Rattle.catalogue.specs.Catalogue.{index_in, number_of, message_in, message_of}
use Rattle.catalogue.proofs.Rising.{in-order}
use Rattle.catalogue.proofs.Judged.{Sound, number_is}
use Rattle.catalogue.proofs.Placed.{Found}

sound_back : (catalogue : Catalogue) → Sound catalogue → judged catalogue ≡ 0
unfolding judged
sound_back catalogue good =
    let lengths-pass : bad_lengths catalogue ≡ false =
    ap₂ (λ (a b : Bool). not a || not b) (eq-eqb _ _ good.paired) (eq-eqb _ _ good.summed) in
    ap (λ (r : Refusal). r.number)
    (unrefused (catalogue_checks catalogue) (ap not good.rising, (lengths-pass, tt)))

-- the board stands at its index, and nowhere else
first-is : (board : ℕ) (boards : List ℕ) → any (is board) boards ≡ true
    → get_or boards (first (is board) boards) 0 ≡ board
first-is board [] some = absurd (false≢true some)
first-is board (other ∷ boards) some = go (eqb other board) refl some (first-is board boards)
  where
    go : (here : Bool) → eqb other board ≡ here → here || any (is board) boards ≡ true
        → (any (is board) boards ≡ true → get_or boards (first (is board) boards) 0 ≡ board)
        → get_or (other ∷ boards) (cond here 0 (suc (first (is board) boards))) 0 ≡ board
    go true here some rest = eqb-true other board here
    go false here some rest = rest some

pub stands : (board : ℕ) (catalogue : Catalogue) → lists board catalogue ≡ true
    → get_or catalogue.boards (index_in board catalogue) 0 ≡ board
stands board catalogue listed = first-is board catalogue.boards listed

module _ (board : ℕ) (catalogue : Catalogue) (good : Sound catalogue) (listed : lists board catalogue ≡ true) (j : ℕ)
    (within : j < length catalogue.boards) (same : get_or catalogue.boards j 0 ≡ board) where
  index-inside : index_in board catalogue < length catalogue.boards
  index-inside = ltb-true _ _ (sym (any-first (is board) catalogue.boards) ∙ listed)

  not-before : j < index_in board catalogue → ⊥
  not-before less =
      omega (
        arith,
        same,
        stands board catalogue listed,
        in-order catalogue.boards good.rising j (index_in board catalogue) less index-inside,
      )

  not_after : index_in board catalogue < j → ⊥
  not_after less =
      omega (
        arith,
        same,
        stands board catalogue listed,
        in-order catalogue.boards good.rising (index_in board catalogue) j less within,
      )

  pub only-there : j ≡ index_in board catalogue
  only-there = omega (arith, not-before, not_after)

module _ (board : ℕ) (corrections standing : Catalogue) where
  -- the other way round is `found`
  pub found_back : Found board corrections standing → number_of board corrections standing ≡ 0
  found_back both =
      number_is board corrections standing
      ∙ rw (sound_back corrections both.corrected, sound_back standing both.stood, both.listed) refl

  -- 42 is for what neither lists, 40 and 41 aside
  pub absent : Sound corrections → Sound standing → lists board corrections ≡ false → lists board standing ≡ false
      → number_of board corrections standing ≡ 42
  absent corrected stood unlisted unlisted-too =
      number_is board corrections standing
      ∙ rw (sound_back corrections corrected, sound_back standing stood, unlisted, unlisted-too) refl

  pub correction-first : number_of board corrections standing ≡ 0 → lists board corrections ≡ true
      → message_of board corrections standing ≡ message_in board corrections
  unfolding message_of
  correction-first none listed = rw (none, listed) refl

  pub standing-else : number_of board corrections standing ≡ 0 → lists board corrections ≡ false
      → message_of board corrections standing ≡ message_in board standing
  unfolding message_of
  standing-else none unlisted = rw (none, unlisted) refl
