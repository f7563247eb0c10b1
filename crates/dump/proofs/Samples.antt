-- The samples one after another: the first, one more, and the end.
use mathlib.Core.Path.{◌≡◌, refl, ap, ap₂, ◌∙◌}
use mathlib.Core.Bool.{Bool, true, false, not, cond, ◌&&◌, beq}
use mathlib.Core.List.{List, [], ◌∷◌, ◌++◌}
use Prim.Native.Nat.{ℕ, ◌+◌, ◌≤◌, ◌<◌, min}
use native.Mathlib.Numerals.{add-one}
use native.Mathlib.Omega.{arith}
use lib.Dec.{leb}
use lib.ListN.{length, get_or, drop, drop_of_length-le}
use lib.Seq.{drop-cons}
use borrow.Author.Tests.{leb-true, leb-false}
use Rattle.levels.specs.Levels.{scl, sda, level_of}
use Rattle.dump.specs.Text.{stamp_line, value_line, change_line, scl_wire, sda_wire}
use Rattle.dump.specs.Text.{first_text, sample_text, samples_after, samples_text, unlike_first}

-- the level before the first sample
pub unlike-none : (levels : List ℕ) → length levels ≡ 0 → 0 ≡ unlike_first levels
unlike-none [] none = refl
unlike-none (level ∷ levels) none = absurd (omega arith)

pub unlike-some : (levels : List ℕ) → (length levels ≡ 0 → ⊥)
    → level_of (not (scl (get_or levels 0 0))) (not (sda (get_or levels 0 0))) ≡ unlike_first levels
unlike-some [] some = absurd (some refl)
unlike-some (level ∷ levels) some = refl

-- after a level with both lines the other way, both change
both-change : (stamp level : ℕ)
    → sample_text (level_of (not (scl level)) (not (sda level))) stamp level ≡ first_text stamp level
unfolding sample_text change_line
both-change stamp level = go (scl level) (sda level)
  where
    go : (c d : Bool)
        → cond (beq c (scl (level_of (not c) (not d))) && beq d (sda (level_of (not c) (not d)))) []
        (stamp_line stamp
        ++ change_line (scl (level_of (not c) (not d))) c scl_wire
        ++ change_line (sda (level_of (not c) (not d))) d sda_wire)
        ≡ stamp_line stamp ++ value_line c scl_wire ++ value_line d sda_wire
    go true true = refl
    go true false = refl
    go false true = refl
    go false false = refl

pub from_first : (stamps levels : List ℕ) → samples_after (unlike_first levels) stamps levels ≡ samples_text stamps levels
from_first [] levels = refl
from_first (stamp ∷ stamps) [] = refl
from_first (stamp ∷ stamps) (level ∷ levels) =
    ap (λ (l : List ℕ). l ++ samples_after level stamps levels) (both-change stamp level)

module _ (stamps levels : List ℕ) (last i : ℕ) where
  pub sample-next : i < length stamps → i < length levels
      → samples_after last (drop i stamps) (drop i levels)
      ≡ sample_text last (get_or stamps i 0) (get_or levels i 0)
      ++ samples_after (get_or levels i 0) (drop (i + 1) stamps) (drop (i + 1) levels)
  sample-next more also =
      rw add-one (ap₂ (λ (s l : List ℕ). samples_after last s l) (drop-cons stamps i 0 more) (drop-cons levels i 0 also))

  no-levels : (left : List ℕ) → samples_after last left [] ≡ []
  no-levels [] = refl
  no-levels (stamp ∷ left) = refl

  pub samples-end : min (length stamps) (length levels) ≤ i → samples_after last (drop i stamps) (drop i levels) ≡ []
  samples-end past = go (leb (length stamps) i) refl
    where
      go : (all : Bool) → leb (length stamps) i ≡ all → samples_after last (drop i stamps) (drop i levels) ≡ []
      go true is =
          ap (λ (s : List ℕ). samples_after last s (drop i levels)) (drop_of_length-le stamps (leb-true (length stamps) i is))
      go false is =
          let end : length levels ≤ i = omega (arith, leb-false (length stamps) i is) in
          ap (λ (l : List ℕ). samples_after last (drop i stamps) l) (drop_of_length-le levels end) ∙ no-levels (drop i stamps)

-- a sample's text from the wires, as they are and were
module _ (last stamp level : ℕ) (c d c₀ d₀ : Bool) (scl-is : c ≡ scl level) (sda-is : d ≡ sda level)
    (scl-was : c₀ ≡ scl last) (sda-was : d₀ ≡ sda last) where
  pub unchanged-text : beq c c₀ && beq d d₀ ≡ true → sample_text last stamp level ≡ []
  unfolding sample_text
  unchanged-text same = rw (← scl-is, ← sda-is, ← scl-was, ← sda-was, same)

  pub changed-text : beq c c₀ && beq d d₀ ≡ false
      → sample_text last stamp level ≡ stamp_line stamp ++ change_line c₀ c scl_wire ++ change_line d₀ d sda_wire
  unfolding sample_text
  changed-text other = rw (← scl-is, ← sda-is, ← scl-was, ← sda-was, other)
