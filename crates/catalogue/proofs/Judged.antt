-- What a catalogue that is not refused is; the first refusal of two catalogues; where a board's message lies.
use Prim.Native.Nat.{ℕ, suc, ◌+◌, ◌<◌, ◌≤◌}
use mathlib.Core.Path.{◌≡◌, refl, sym, ap, ◌∙◌}
use mathlib.Core.Bool.{Bool, cond, true, false, not, ◌||◌}
use mathlib.Core.List.{[], ◌∷◌}
use native.Mathlib.Omega.{arith}
use lib.Dec.{eqb}
use borrow.Author.Tests.{eqb-true, ne_eqb, ltb-true, not-false}
use lib.ListN.{length}
use Rattle.laws.specs.Refusals.{check, given}
use Rattle.laws.proofs.Bools.{neither}
use Rattle.laws.proofs.Refusals.{passed}
use Rattle.laws.proofs.Search.{any-first}
use Rattle.laws.specs.Search.{first}
use Rattle.std.specs.List.{position}
use Rattle.std.proofs.lemmas.List.Recursion.{is_position_or_len}
use Rattle.std.proofs.lemmas.Option.{cond_some, none-some}
use Rattle.std.specs.Prelude.{Some, None}
use Rattle.catalogue.specs.Catalogue.{Catalogue, rises, total, bad_lengths, catalogue_checks, judged, is, lists}
use Rattle.catalogue.specs.Catalogue.{index_in, number_of, offset_at, length_at, refused_by, found_at, located}
use Rattle.catalogue.proofs.Sums.{both-within}

-- boards that rise, a length for each, and a block of just their sum
pub record Sound (catalogue : Catalogue) : Type 0 where
  pub rising : rises catalogue.boards ≡ true
  pub paired : length catalogue.lengths ≡ length catalogue.boards
  pub summed : total catalogue.lengths ≡ length catalogue.block

pub sound : (catalogue : Catalogue) → judged catalogue ≡ 0 → Sound catalogue
unfolding judged
sound catalogue unrefused =
    let all = passed (catalogue_checks catalogue) ((λ e. omega arith), ((λ e. omega arith), tt)) unrefused in
    let two = neither _ _ all.1.0 in
    record {
      rising = not-false (rises catalogue.boards) all.0;
      paired = eqb-true _ _ (not-false _ two.0);
      summed = eqb-true _ _ (not-false _ two.1);
    }

-- a board that is listed has a message inside the block
module _ (board : ℕ) (catalogue : Catalogue) (good : Sound catalogue) (listed : lists board catalogue ≡ true) where
  pub index-within : index_in board catalogue < length catalogue.lengths
  index-within =
      let before : index_in board catalogue < length catalogue.boards =
      ltb-true _ _ (sym (any-first (is board) catalogue.boards) ∙ listed) in
      omega (arith, good.paired, before)

  pub message-within : offset_at (index_in board catalogue) catalogue.lengths
      + length_at (index_in board catalogue) catalogue.lengths
      ≤ length catalogue.block
  message-within = omega (arith, good.summed, both-within catalogue.lengths (index_in board catalogue) index-within)

-- a board is listed exactly where it has a position
module _ (board : ℕ) (catalogue : Catalogue) where
  position_is : position (is board) catalogue.boards ≡ cond (lists board catalogue) (Some (index_in board catalogue)) None
  position_is =
      let one = is_position_or_len (first (is board)) (is board) refl (λ x xs. step x (first (is board) xs))
      catalogue.boards in
      rw (← one, ← any-first (is board) catalogue.boards) refl
    where
      step : (x n : ℕ) → cond (is board x) 0 (suc n) ≡ cond (is board x) 0 (1 + n)
      step x n = let one : suc n ≡ 1 + n = omega arith in ap (λ (k : ℕ). cond (is board x) 0 k) one

  listed_at : (index : ℕ) → Some index ≡ position (is board) catalogue.boards
      → (lists board catalogue ≡ true) × (index_in board catalogue ≡ index)
  listed_at index is = cond_some _ _ _ (sym position_is ∙ sym is)

  pub position-within : Sound catalogue → (index : ℕ) → Some index ≡ position (is board) catalogue.boards
      → index < length catalogue.lengths
  position-within good index found =
      let two = listed_at index found in
      omega (arith, index-within board catalogue good two.0, two.1)

  not_listed : None ≡ position (is board) catalogue.boards → lists board catalogue ≡ false
  not_listed is = go (lists board catalogue) refl
    where
      go : (listed : Bool) → lists board catalogue ≡ listed → listed ≡ false
      go true so = absurd (none-some (index_in board catalogue) (is ∙ rw so at position_is))
      go false so = refl

-- the five checks, by catalogue
in-turn : (a b c d e : Bool)
    → (given (check 40 a ∷ check 41 b ∷ check 40 c ∷ check 41 d ∷ check 42 e ∷ [])).number
    ≡ cond (eqb (given (check 40 a ∷ check 41 b ∷ [])).number 0)
    (cond (eqb (given (check 40 c ∷ check 41 d ∷ [])).number 0) (cond e 42 0)
    (given (check 40 c ∷ check 41 d ∷ [])).number)
    (given (check 40 a ∷ check 41 b ∷ [])).number
in-turn true b c d e = refl
in-turn false true c d e = refl
in-turn false false true d e = refl
in-turn false false false true e = refl
in-turn false false false false true = refl
in-turn false false false false false = refl

module _ (board : ℕ) (corrections standing : Catalogue) where
  pub number_is : number_of board corrections standing
      ≡ cond (eqb (judged corrections) 0)
      (cond (eqb (judged standing) 0) (cond (not (lists board corrections || lists board standing)) 42 0)
      (judged standing))
      (judged corrections)
  unfolding number_of judged
  number_is =
      in-turn (not (rises corrections.boards)) (bad_lengths corrections) (not (rises standing.boards))
      (bad_lengths standing) (not (lists board corrections || lists board standing))

  abbrev Refuses : ℕ → Type 0
  Refuses n = refused_by n ≡ located board corrections standing

  refused-is : (n : ℕ) → number_of board corrections standing ≡ n → (n ≡ 0 → ⊥) → Refuses n
  unfolding located
  refused-is n is some = rw (is, ne_eqb n 0 some)

  pub corrections-refused : (n : ℕ) → n ≡ judged corrections → (n ≡ 0 → ⊥) → Refuses n
  corrections-refused n is some =
      refused-is n (number_is ∙ rw (sym is, ne_eqb n 0 some) refl) some

  module _ (corrections-pass : judged corrections ≡ 0) where
    pub standing-refused : (n : ℕ) → n ≡ judged standing → (n ≡ 0 → ⊥) → Refuses n
    standing-refused n is some =
        refused-is n (number_is ∙ rw (corrections-pass, sym is, ne_eqb n 0 some) refl) some

    module _ (standing-pass : judged standing ≡ 0) where
      sought : number_of board corrections standing
          ≡ cond (not (lists board corrections || lists board standing)) 42 0
      sought = number_is ∙ rw (corrections-pass, standing-pass) refl

      pub corrected-found : (index : ℕ) → Some index ≡ position (is board) corrections.boards
          → found_at true index corrections.lengths ≡ located board corrections standing
      unfolding located
      corrected-found index found =
          let two = listed_at board corrections index found in
          rw (← two.1, sought, two.0) refl

      module _ (absent : None ≡ position (is board) corrections.boards) where
        unlisted : lists board corrections ≡ false
        unlisted = not_listed board corrections absent

        pub standing-found : (index : ℕ) → Some index ≡ position (is board) standing.boards
            → found_at false index standing.lengths ≡ located board corrections standing
        unfolding located
        standing-found index found =
            let two = listed_at board standing index found in
            rw (← two.1, sought, unlisted, two.0) refl

        pub neither-found : None ≡ position (is board) standing.boards → Refuses 42
        unfolding located
        neither-found none =
            let absent = not_listed board standing none in
            rw (sought, unlisted, absent) refl
