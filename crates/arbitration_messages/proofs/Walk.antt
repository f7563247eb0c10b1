-- Lists that lie one after the other in one, walked: where each begins and ends.
use Prim.Native.Nat.{ℕ, suc, ◌+◌, ◌-◌, ◌<◌, ◌≤◌, min}
use mathlib.Core.Path.{◌≡◌, refl, sym, ap, ◌∙◌}
use mathlib.Core.Bool.{Bool, true, false}
use mathlib.Core.List.{List, [], ◌∷◌}
use native.Mathlib.Numerals.{add-one}
use native.Mathlib.Omega.{arith}
use lib.Dec.{leb}
use borrow.Author.Tests.{leb-true, leb-false}
use lib.ListN.{length, get_or, take, drop, length-drop, drop_of_length-le}
use lib.Seq.{drop-cons, drop-drop, take_all}
use Rattle.arbitration_rules.specs.Reply.{cut}
use Rattle.arbitration_rules.proofs.Cut.{cut-count}

-- the first i of them end at an index
pub record At (lengths bytes : List ℕ) (i from : ℕ) : Type 0 where
  pub within : from ≤ length bytes
  pub rest : drop i (cut lengths bytes) ≡ cut (drop i lengths) (drop from bytes)

pub at-start : (lengths bytes : List ℕ) → At lengths bytes 0 0
at-start lengths bytes = record { within = omega arith; rest = refl }

-- what is left past an end that is cut to the list's
dropped : (bytes : List ℕ) (from count to : ℕ) → to ≡ min (from + count) (length bytes) → from ≤ length bytes
    → drop count (drop from bytes) ≡ drop to bytes
dropped bytes from count to end within = go (leb (from + count) (length bytes)) refl
  where
    go : (fits : Bool) → leb (from + count) (length bytes) ≡ fits → drop count (drop from bytes) ≡ drop to bytes
    go true fits =
        let same : from + count ≡ to = omega (arith, leb-true (from + count) (length bytes) fits) in
        drop-drop count from bytes ∙ ap (λ (k : ℕ). drop k bytes) same
    go false past =
        let far : length bytes ≤ from + count = omega (arith, leb-false (from + count) (length bytes) past) in
        let there : length bytes ≤ to = omega (arith, leb-false (from + count) (length bytes) past) in
        drop-drop count from bytes ∙ drop_of_length-le bytes far ∙ sym (drop_of_length-le bytes there)

-- and what lies up to it
taken : (bytes : List ℕ) (from count to : ℕ) → to ≡ min (from + count) (length bytes) → from ≤ length bytes
    → take (to - from) (drop from bytes) ≡ take count (drop from bytes)
taken bytes from count to end within = go (leb (from + count) (length bytes)) refl
  where
    go : (fits : Bool) → leb (from + count) (length bytes) ≡ fits
        → take (to - from) (drop from bytes) ≡ take count (drop from bytes)
    go true fits =
        let same : to - from ≡ count = omega (arith, leb-true (from + count) (length bytes) fits) in
        ap (λ (k : ℕ). take k (drop from bytes)) same
    go false past =
        let size = length-drop from bytes in
        let whole : length (drop from bytes) ≤ to - from =
        omega (arith, size, leb-false (from + count) (length bytes) past) in
        let more : length (drop from bytes) ≤ count =
        omega (arith, size, leb-false (from + count) (length bytes) past) in
        take_all (to - from) (drop from bytes) whole ∙ sym (take_all count (drop from bytes) more)

module _ (lengths bytes : List ℕ) (i from to : ℕ) (at : At lengths bytes i from) (less : i < length lengths)
    (end : to ≡ min (from + get_or lengths i 0) (length bytes)) where
  -- the list that lies there
  here : drop i (cut lengths bytes)
      ≡ take (get_or lengths i 0) (drop from bytes)
      ∷ cut (drop (suc i) lengths) (drop (get_or lengths i 0) (drop from bytes))
  here = at.rest ∙ ap (λ (counts : List ℕ). cut counts (drop from bytes)) (drop-cons lengths i 0 less)

  pub in-messages : i < length (cut lengths bytes)
  in-messages = omega (arith, cut-count lengths bytes)

  split : drop i (cut lengths bytes)
      ≡ get_or (cut lengths bytes) i [] ∷ drop (suc i) (cut lengths bytes)
  split = drop-cons (cut lengths bytes) i [] in-messages

  head-is : get_or (cut lengths bytes) i [] ≡ take (get_or lengths i 0) (drop from bytes)
  head-is = ap (λ (l : List (List ℕ)). get_or l 0 []) (sym split ∙ here)

  pub message-is : take (to - from) (drop from bytes) ≡ get_or (cut lengths bytes) i []
  message-is = taken bytes from (get_or lengths i 0) to end at.within ∙ sym head-is

  pub at_more : At lengths bytes (i + 1) to
  at_more =
      record {
        within = omega arith;
        rest =
            rw add-one
            (ap (λ (l : List (List ℕ)). drop 1 l) (sym split ∙ here)
            ∙ ap (cut (drop (suc i) lengths)) (dropped bytes from (get_or lengths i 0) to end at.within));
      }

  pub ordered : from ≤ to
  ordered = omega (arith, at.within)

  pub end-within : to ≤ length bytes
  end-within = omega arith
