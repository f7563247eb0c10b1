-- A table filled entry by entry: what holds of it as a loop goes on, by the law of lists written into a buffer.
use mathlib.Core.Path.{◌≡◌, sym, ap, ◌∙◌}
use mathlib.Core.List.{List, [], ◌∷◌, map}
use Prim.Native.Nat.{ℕ, suc, ◌+◌, ◌≤◌, ◌<◌}
use native.Mathlib.Numerals.{add-one}
use lib.ListN.{length, take, drop, set, get_or, length-map, drop_of_length-le, get_or-map}
use lib.Seq.{drop-cons, length-take-le, get_or-take}
use Rattle.laws.specs.Buffer.{filled}
use Rattle.laws.proofs.Buffer.{Writing, writing-none, writing-long, writing_more, writing-done}

-- the first count entries are written
abbrev pub Written : {A : Type 0} → List A → List A → List A → ℕ → Type 0
Written whole table₀ table count = Writing whole (drop count whole) table₀ table count

pub written_none : {A : Type 0} (whole table : List A) → Written whole table table 0
written_none whole table = writing-none whole table

module _ {A : Type 0} (whole table₀ table : List A) (count : ℕ) (room : length whole ≤ length table₀) (written : Written whole table₀ table count) where
  pub written-long : length table ≡ length table₀
  written-long = writing-long whole (drop count whole) table₀ table count room written

  pub written-more : (entry other : A) → count < length whole → entry ≡ get_or whole count other
      → Written whole table₀ (set table count entry) (count + 1)
  written-more entry other more e =
      let next : drop (suc count) whole ≡ drop (count + 1) whole = ap (λ (n : ℕ). drop n whole) (sym (add-one count)) in
      let first : get_or whole count other ∷ drop (suc count) whole ≡ entry ∷ drop (count + 1) whole = rw (e, next) in
      writing_more whole (drop count whole) table₀ table count room written (entry ∷ []) (drop (count + 1) whole)
      (drop-cons whole count other more ∙ first)

  pub written-done : length whole ≤ count → table ≡ filled whole table₀
  written-done all = writing-done whole (drop count whole) table₀ table count room written (drop_of_length-le whole all)

-- the first of a list's elements, so many, as entries
module _ {A : Type 0} (f : A → ℕ) (list : List A) (count : ℕ) (within : count ≤ length list) where
  pub entries-long : length (map f (take count list)) ≡ count
  entries-long = length-map (take count list) f ∙ length-take-le count list within

  -- an entry that stands for the element at an index stands there
  pub entry_at : (index : ℕ) (other : A) (entry : ℕ) → index < count → entry ≡ f (get_or list index other)
      → entry ≡ get_or (map f (take count list)) index (f other)
  entry_at index other entry less e =
      e ∙ ap f (sym (get_or-take count list index other less)) ∙ sym (get_or-map f (take count list) index other)
