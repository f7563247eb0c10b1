-- Pieces handed over one after another are the text, whatever buffers they came in. What each is, is `piece`'s contract.
use mathlib.Core.Path.{◌≡◌, refl, sym, ap, ap₂, ◌∙◌}
use mathlib.Core.Bool.{Bool, true, false}
use mathlib.Core.List.{List, [], ◌++◌}
use Prim.Native.Nat.{ℕ, ◌+◌, ◌-◌, ◌≤◌, ◌<◌, min}
use native.Mathlib.Omega.{arith}
use lib.Dec.{leb}
use lib.ListN.{length, take, drop, take-append-drop, length-drop}
use lib.Seq.{sets, length-sets, sets-eq, take_at, drop_at, take_all, take-add, length-take-le}
use borrow.Author.Tests.{leb-true, leb-false}
use Rattle.text.specs.Output.{Put}
use Rattle.text.proofs.Putting.{sets-append, sets-out}

-- ---- one piece: what was put is the text's front, and the rest of the buffer stays
module _ (old text new : List ℕ) (n : ℕ) (put : Put old 0 text new n) where
  front_length : length (take n text) ≡ n
  front_length = length-take-le n text (omega (arith, put.moved))

  -- what does not fit is not put
  fitting : sets old 0 text ≡ sets old 0 (take n text)
  fitting = go (leb (length text) n) refl
    where
      go : (all : Bool) → leb (length text) n ≡ all → sets old 0 text ≡ sets old 0 (take n text)
      go true is = ap (sets old 0) (sym (take_all n text (leb-true (length text) n is)))
      go false is =
          let full : length (sets old 0 (take n text)) ≤ 0 + length (take n text) =
          omega (arith, put.moved, leb-false (length text) n is, front_length, length-sets old 0 (take n text)) in
          ap (sets old 0) (sym (take-append-drop n text)) ∙ sets-append (take n text) (drop n text) old 0
          ∙ sets-out (drop n text) (sets old 0 (take n text)) (0 + length (take n text)) full

  parts : new ≡ take n text ++ drop n old
  parts =
      let room : 0 + length (take n text) ≤ length old = omega (arith, put.moved, front_length) in
      let far : 0 + length (take n text) ≡ n = omega (arith, front_length) in
      put.stored ∙ fitting ∙ sets-eq (take n text) old 0 room ∙ ap (λ (k : ℕ). take n text ++ drop k old) far

  pub piece-front : take n new ≡ take n text
  piece-front = ap (take n) parts ∙ take_at (take n text) (drop n old) n front_length

  pub piece-rest : drop n new ≡ drop n old
  piece-rest = ap (drop n) parts ∙ drop_at (take n text) (drop n old) n front_length

-- ---- from byte `from` of the text on
module _ (old text new : List ℕ) (from n : ℕ) (put : Put old 0 (drop from text) new n) where
  counted : n ≡ min (length text - from) (length old)
  counted = omega (arith, put.moved, length-drop from text)

  -- a piece after which more is to come fills its buffer
  pub fills : from + n < length text → n ≡ length old
  fills more = omega (arith, counted)

  -- each buffer of at least a byte takes the text further
  pub goes-on : from < length text → 0 < length old → 0 < n
  goes-on more some = omega (arith, counted)

  -- at the text's end or past it there is nothing, and the buffer stays
  pub none-past : length text ≤ from → (n ≡ 0) × (new ≡ old)
  none-past past =
      let none : n ≡ 0 = omega (arith, counted) in
      (none, ap (λ (k : ℕ). drop k new) (sym none) ∙ piece-rest old (drop from text) new n put ∙ ap (λ (k : ℕ). drop k old) none)

-- ---- pieces one after another: each from where the one before ended, each in a buffer of its own
pub data Handed (text : List ℕ) : ℕ → List ℕ → Type 0 where
  nothing : Handed text 0 []
  piece : {from n : ℕ} {bytes old new : List ℕ} → Handed text from bytes → Put old 0 (drop from text) new n
      → Handed text (from + n) (bytes ++ take n new)

pub handed-front : {text bytes : List ℕ} {from : ℕ} → Handed text from bytes → bytes ≡ take from text
handed-front nothing = refl
handed-front {text} (piece {from} {n} {bytes} {old} {new} handed put) =
    ap₂ (λ (s t : List ℕ). s ++ t) (handed-front handed) (piece-front old (drop from text) new n put)
    ∙ sym (take-add from n text)

-- once the end is reached, what was handed over is the text
pub handed-whole : {text bytes : List ℕ} {from : ℕ} → length text ≤ from → Handed text from bytes → bytes ≡ text
handed-whole {text} {bytes} {from} end handed = handed-front handed ∙ take_all from text end
