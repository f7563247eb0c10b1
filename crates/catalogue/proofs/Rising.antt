-- Boards that rise, seen one pair after the other; and what it means that they do.
use Prim.Native.Nat.{ℕ, zero, suc, ◌+◌, ◌-◌, ◌<◌, ◌≤◌}
use mathlib.Core.Path.{◌≡◌, refl, sym, ap, ap₂, ◌∙◌}
use mathlib.Core.Bool.{true, false, ◌&&◌}
use mathlib.Core.List.{List, [], ◌∷◌}
use native.Mathlib.Numerals.{add-one}
use native.Mathlib.Omega.{arith}
use lib.Dec.{ltb}
use borrow.Author.Tests.{ltb-true, lt-ltb, le-ltb}
use lib.ListN.{length, get_or, drop, drop_of_length-le}
use lib.Seq.{drop-cons}
use Rattle.laws.proofs.Bools.{both}
use Rattle.catalogue.specs.Catalogue.{rises, rises_from}

-- the first i boards rise
pub record Risen (boards : List ℕ) (i : ℕ) : Type 0 where
  pub some : 1 ≤ i
  pub rest : rises boards ≡ rises_from (get_or boards (i - 1) 0) (drop i boards)

pub risen-start : (boards : List ℕ) → Risen boards 1
risen-start [] = record { some = omega arith; rest = refl }
risen-start (board ∷ boards) = record { some = omega arith; rest = refl }

module _ (boards : List ℕ) (i : ℕ) (risen : Risen boards i) where
  module _ (less : i < length boards) where
    turn : rises boards
        ≡ ltb (get_or boards (i - 1) 0) (get_or boards i 0) && rises_from (get_or boards i 0) (drop (suc i) boards)
    turn = risen.rest ∙ ap (rises_from (get_or boards (i - 1) 0)) (drop-cons boards i 0 less)

    pub risen-more : get_or boards (i - 1) 0 < get_or boards i 0 → Risen boards (i + 1)
    risen-more above =
        let back : i ≡ i + 1 - 1 = omega arith in
        record {
          some = omega arith;
          rest =
              rw (lt-ltb (get_or boards (i - 1) 0) (get_or boards i 0) above) at turn
              ∙ ap₂ (λ (j k : ℕ). rises_from (get_or boards j 0) (drop k boards)) back (sym (add-one i));
        }

    pub risen-not : get_or boards i 0 ≤ get_or boards (i - 1) 0 → false ≡ rises boards
    risen-not not-above = sym (rw (le-ltb (get_or boards (i - 1) 0) (get_or boards i 0) not-above) at turn)

  pub risen-all : length boards ≤ i → true ≡ rises boards
  risen-all end = sym (risen.rest ∙ ap (rises_from (get_or boards (i - 1) 0)) (drop_of_length-le boards end))

-- in boards that rise an earlier one is below every later one, so that no board stands in the list twice
above-all : (before : ℕ) (boards : List ℕ) → rises_from before boards ≡ true → (i : ℕ) → i < length boards
    → before < get_or boards i 0
above-all before [] rising i less = absurd (omega arith)
above-all before (board ∷ boards) rising zero less = ltb-true before board (both _ _ rising).0
above-all before (board ∷ boards) rising (suc i) less =
    let two = both (ltb before board) (rises_from board boards) rising in
    let later = above-all board boards two.1 i (omega arith) in
    omega (arith, ltb-true before board two.0, later)

pub in-order : (boards : List ℕ) → rises boards ≡ true → (i j : ℕ) → i < j → j < length boards
    → get_or boards i 0 < get_or boards j 0
in-order [] rising i j less within = absurd (omega arith)
in-order (board ∷ boards) rising i zero less within = absurd (omega arith)
in-order (board ∷ boards) rising zero (suc j) less within = above-all board boards rising j (omega arith)
in-order (board ∷ []) rising (suc i) (suc j) less within = absurd (omega arith)
in-order (board ∷ next ∷ boards) rising (suc i) (suc j) less within =
    in-order (next ∷ boards) (both (ltb board next) (rises_from next boards) rising).1 i j (omega arith) (omega arith)
