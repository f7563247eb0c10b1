-- A list gone through line by line.
use mathlib.Core.Path.{◌≡◌, refl, ◌∙◌}
use mathlib.Core.Bool.{Bool, true, false}
use mathlib.Core.List.{List}
use Prim.Native.Nat.{ℕ, zero, suc, ◌-◌, ◌<◌}
use native.Mathlib.Omega.{arith}
use Rattle.laws.specs.Same.{same}
use Rattle.laws.proofs.Same.{same_self, same-equal}
use Rattle.text.specs.Words.{first_line, after_line}
use Rattle.rig_lines.specs.Lists.{after_lines, place_of}

-- one line less to pass
pub lines-less : (left : ℕ) (list next : List ℕ) → 0 < left → next ≡ after_line list
    → after_lines left list ≡ after_lines (left - 1) next
unfolding after_lines
lines-less zero list next h e = absurd (omega arith)
lines-less (suc left) list next h e =
    let same : suc left - 1 ≡ left = omega arith in
    rw (e, same)

-- the word is the first line: it stands there
pub stands_here : (left : ℕ) (list line word : List ℕ) → 0 < left → line ≡ first_line list → line ≡ word
    → place_of left list word ≡ 0
unfolding place_of
stands_here zero list line word h e is = absurd (omega arith)
stands_here (suc left) list line word h e is =
    let found : same (first_line list) word ≡ true = rw (← e, is) (same_self word) in
    rw found

-- it is not: it stands one further than in the rest
pub stands-later : (left : ℕ) (list line next word : List ℕ) → 0 < left → line ≡ first_line list → (line ≡ word → ⊥)
    → next ≡ after_line list → place_of left list word ≡ suc (place_of (left - 1) next word)
unfolding place_of
stands-later zero list line next word h e other f = absurd (omega arith)
stands-later (suc left) list line next word h e other f = go (same (first_line list) word) refl
  where
    less : suc left - 1 ≡ left
    less = omega arith

    go : (found : Bool) → same (first_line list) word ≡ found
        → place_of (suc left) list word ≡ suc (place_of (suc left - 1) next word)
    go true is = absurd (other (e ∙ same-equal (first_line list) word is))
    go false is = rw (is, less, f)

-- no line is looked at
pub none_left : (left : ℕ) (list word : List ℕ) → left ≡ 0 → place_of left list word ≡ 0
unfolding place_of
none_left zero list word none = refl
none_left (suc left) list word none = absurd (omega arith)
