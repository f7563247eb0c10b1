-- What compare answers: the same lists, or the first difference.
use Prim.Native.Nat.{ℕ}
use mathlib.Core.Path.{◌≡◌, refl, sym, ◌∙◌}
use mathlib.Core.Bool.{Bool, true, false, ◌&&◌, false≢true}
use mathlib.Core.List.{List}
use lib.Dec.{eqb}
use lib.ListN.{length, take}
use borrow.Author.Tests.{eq-eqb, eqb-true}
use Rattle.std.specs.Prelude.{Some, None}
use Rattle.laws.specs.Same.{same}
use Rattle.laws.proofs.Bools.{both}
use Rattle.event_match.specs.declared.Part.{Part}
use Rattle.event_match.specs.Match.{agreed, byte_from, part_at, difference_at, compared}
use Rattle.event_match.proofs.Agreeing.{ends_same, same_ends}

module _ (rehearsed seen : List ℕ) (index : ℕ) (is : index ≡ agreed rehearsed seen) where
  abbrev ended : Bool
  ended = eqb index (length rehearsed) && eqb index (length seen)

  ended_same : ended ≡ true → same rehearsed seen ≡ true
  ended_same ends =
      let two = both (eqb index (length rehearsed)) (eqb index (length seen)) ends in
      ends_same rehearsed seen (sym is ∙ eqb-true index (length rehearsed) two.0)
      (sym is ∙ eqb-true index (length seen) two.1)

  not_same : ended ≡ false → same rehearsed seen ≡ false
  not_same goes-on = go (same rehearsed seen) refl
    where
      go : (equal : Bool) → same rehearsed seen ≡ equal → equal ≡ false
      go false holds = refl
      go true holds =
          let ends = same_ends rehearsed seen holds in
          let first : eqb index (length rehearsed) ≡ true = eq-eqb index (length rehearsed) (is ∙ ends.0) in
          let second : eqb index (length seen) ≡ true = eq-eqb index (length seen) (is ∙ ends.1) in
          absurd (false≢true (rw (first, second) at (sym goes-on)))

  pub compared-equal : ended ≡ true → None ≡ compared rehearsed seen
  unfolding compared
  compared-equal ends = rw (ended_same ends)

  pub compared_at : (byte : ℕ) (part : Part) → ended ≡ false → byte ≡ byte_from 0 (take index rehearsed)
      → part ≡ part_at rehearsed seen index → Some (difference_at index byte part) ≡ compared rehearsed seen
  unfolding compared
  compared_at byte part goes-on byte-is part-is = rw (not_same goes-on, byte-is, part-is, is)
