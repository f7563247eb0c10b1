-- The frames from a place on, one after another.
use Prim.Native.Nat.{ℕ, suc, ◌+◌, ◌-◌, ◌≤◌, ◌<◌}
use native.Mathlib.Omega.{arith}
use mathlib.Core.Path.{◌≡◌, sym, ap, ◌∙◌}
use mathlib.Core.Bool.{Bool, true, false, cond, ◌||◌}
use mathlib.Core.List.{List, ◌∷◌}
use lib.Dec.{eqb, ltb}
use lib.ListN.{length, take, drop}
use lib.Seq.{take-nil}
use borrow.Author.Tests.{lt-ltb, le-ltb}
use Rattle.laws.specs.Search.{any}
use Rattle.frame_match.specs.Frames.{cut, frame_at}
use Rattle.frame_match.specs.Rules.{rehearsed_row, comes}
use Rattle.frame_match.proofs.Cutting.{cut-here, cut-past}

-- ---- whether one of so many passes a test
module _ (test : List ℕ → Bool) (seen : List ℕ) (at : ℕ) where
  module _ (left : ℕ) (more : 0 < left) (less : at < length seen) where
    here : any test (take left (cut (drop at seen)))
        ≡ test (frame_at seen at) || any test (take (left - 1) (cut (drop (at + length (frame_at seen at)) seen)))
    here =
        let next : left ≡ suc (left - 1) = omega arith in
        ap (λ (frames : List (List ℕ)). any test (take left frames)) (cut-here seen at less)
        ∙ ap (λ (n : ℕ). any test (take n (frame_at seen at ∷ cut (drop (at + length (frame_at seen at)) seen)))) next

    pub one-here : test (frame_at seen at) ≡ true → true ≡ any test (take left (cut (drop at seen)))
    one-here passes = sym (here ∙ rw passes)

    pub one_later : test (frame_at seen at) ≡ false
        → any test (take left (cut (drop at seen)))
        ≡ any test (take (left - 1) (cut (drop (at + length (frame_at seen at)) seen)))
    one_later fails = here ∙ rw fails

  pub none_left : (left : ℕ) → left ≤ 0 → false ≡ any test (take left (cut (drop at seen)))
  none_left left none = let zero_left : left ≡ 0 = omega arith in rw zero_left

  pub none-past : (left : ℕ) → length seen ≤ at → false ≡ any test (take left (cut (drop at seen)))
  none-past left past = rw (cut-past seen at past) (ap (any test) (sym (take-nil left)))

-- ---- whether the first that is rehearsed is the load's
module _ (book : List ℕ) (rows : ℕ) (events seen : List ℕ) (load at : ℕ) where
  module _ (row : ℕ) (less : at < length seen) (is : row ≡ rehearsed_row book rows events (frame_at seen at) load) where
    one : comes book rows events load (cut (drop at seen))
        ≡ cond (ltb row rows) (eqb row load) (comes book rows events load (cut (drop (at + length (frame_at seen at)) seen)))
    one = ap (comes book rows events load) (cut-here seen at less) ∙ rw is

    pub comes-here : row < rows → eqb row load ≡ comes book rows events load (cut (drop at seen))
    comes-here found = sym (one ∙ rw (lt-ltb row rows found))

    pub comes-later : rows ≤ row → comes book rows events load (cut (drop at seen))
        ≡ comes book rows events load (cut (drop (at + length (frame_at seen at)) seen))
    comes-later none = one ∙ rw (le-ltb row rows none)

  pub comes-past : length seen ≤ at → false ≡ comes book rows events load (cut (drop at seen))
  comes-past past = rw (cut-past seen at past)
