-- Messages smaller than others: the order is strict, and total over different ones.
use Prim.Native.Nat.{ℕ}
use native.Mathlib.Omega.{arith}
use mathlib.Core.Path.{◌≡◌, refl, ap, ap₂, sym, ◌∙◌}
use mathlib.Core.Bool.{Bool, true, false, not, false≢true}
use mathlib.Core.List.{List, ◌∷◌}
use borrow.Author.Tests.{not-true, not-false}
use Rattle.arbitration_rules.specs.Outcome.{at_most}
use Rattle.arbitration_rules.proofs.LeastMessage.{AtMost, both_end, ends, restarts-first, by_first, by-rest}
use Rattle.arbitration_rules.proofs.LeastMessage.{at-most, not-at-most, at-most-holds, at-most-refl, at-most-trans}
use Rattle.night_rules.specs.Different.{smaller}

-- each at most the other: they are equal
pub at-most-equal : {message other : List ℕ} → AtMost message other → AtMost other message → message ≡ other
at-most-equal both_end both_end = refl
at-most-equal (ends byte) (restarts-first again) = absurd (false≢true (sym byte ∙ again))
at-most-equal (restarts-first again) (ends byte) = absurd (false≢true (sym byte ∙ again))
at-most-equal (by_first less) (by_first more) = absurd (omega arith)
at-most-equal (by_first less) (by-rest same rest) = absurd (omega arith)
at-most-equal (by-rest same rest) (by_first less) = absurd (omega arith)
at-most-equal (by-rest same rest) (by-rest alike others) = ap₂ ◌∷◌ same (at-most-equal rest others)

-- what the test says
pub smaller-at-most : (message other : List ℕ) → smaller message other ≡ true → AtMost message other
smaller-at-most message other less = not-at-most other message (not-true (at_most other message) less)

pub not-smaller : (message other : List ℕ) → smaller message other ≡ false → AtMost other message
not-smaller message other fails = at-most other message (not-false (at_most other message) fails)

pub at-most-not-smaller : {message other : List ℕ} → AtMost message other → smaller other message ≡ false
at-most-not-smaller order = ap not (at-most-holds order)

pub smaller-self : (message : List ℕ) → smaller message message ≡ false
smaller-self message = at-most-not-smaller (at-most-refl message)

-- neither is smaller: they are equal
pub neither-smaller : (message other : List ℕ) → smaller message other ≡ false → smaller other message ≡ false
    → message ≡ other
neither-smaller message other one two = at-most-equal (not-smaller other message two) (not-smaller message other one)

-- smaller than a message that is at most another
pub smaller-then : (message other third : List ℕ) → smaller message other ≡ true → AtMost other third
    → smaller message third ≡ true
smaller-then message other third less order = go (at_most third message) refl
  where
    go : (test : Bool) → at_most third message ≡ test → not test ≡ true
    go true holds =
        absurd (false≢true (sym (at-most-not-smaller (at-most-trans order (at-most third message holds))) ∙ less))
    go false fails = refl
