-- Text put on the page byte by byte: what a loop has put, and what is left of the whole.
use mathlib.Core.Path.{◌≡◌, refl}
use mathlib.Core.List.{List, [], ◌∷◌, ◌++◌}
use Prim.Native.Nat.{ℕ, zero, suc, ◌+◌, ◌-◌, ◌≤◌, ◌<◌, min}
use native.Mathlib.Numerals.{add-one}
use native.Mathlib.Omega.{arith}
use lib.ListN.{length, get_or, drop, drop_of_length-le}
use lib.Seq.{drop-cons, drop-drop, get_or-drop}
use Rattle.text.specs.Output.{Put}
use Rattle.text.proofs.Putting.{Putting, putting-none, putting-more, putting-done}
use Rattle.rig_lines.specs.Console.{spaces, shown, shown_text, form_byte, marks, form_text}

module _ (page : List ℕ) (at : ℕ) where
  -- so many spaces are left to put
  pub spaces-more : (n left : ℕ) {mid new : List ℕ} {next end : ℕ} → 0 < left
      → Putting page at (spaces n) (spaces left) mid next → Put mid next (0x20 ∷ []) new end
      → Putting page at (spaces n) (spaces (left - 1)) new end
  spaces-more n zero h p q = absurd (omega arith)
  spaces-more n (suc left) h p q =
      let same : suc left - 1 ≡ left = omega arith in
      rw same (putting-more (0x20 ∷ []) (spaces left) refl p q)

  pub spaces-done : (n left : ℕ) {new : List ℕ} {next : ℕ} → left ≡ 0
      → Putting page at (spaces n) (spaces left) new next → Put page at (spaces n) new next
  spaces-done n left h p = putting-done (rw h) p

  -- the first i bytes of a word are shown
  pub shown-more : (word : List ℕ) (i b : ℕ) {mid new : List ℕ} {next end : ℕ} → i < length word
      → b ≡ shown (get_or word i 0)
      → Putting page at (shown_text word) (shown_text (drop i word)) mid next → Put mid next (b ∷ []) new end
      → Putting page at (shown_text word) (shown_text (drop (i + 1) word)) new end
  unfolding shown_text
  shown-more word i b h e p q =
      putting-more (b ∷ []) (shown_text (drop (i + 1) word)) (rw (drop-cons word i 0, add-one, e)) p q

  pub shown-done : (word : List ℕ) (i : ℕ) {new : List ℕ} {next : ℕ} → length word ≤ i
      → Putting page at (shown_text word) (shown_text (drop i word)) new next → Put page at (shown_text word) new next
  unfolding shown_text
  shown-done word i h p = putting-done (rw (drop_of_length-le word h)) p

  module _ (words numbers : List ℕ) where
    -- the first i bytes of a form are put, and took the numbers before `number`
    pub record Forming (i number : ℕ) (new : List ℕ) (next : ℕ) : Type 0 where
      pub within : i ≤ length words
      pub behind : number ≤ i
      pub text : Putting page at (form_text words numbers) (form_text (drop i words) (drop number numbers)) new next

    pub forming-none : (next : ℕ) → next ≡ min at (length page) → Forming 0 0 page next
    forming-none next m =
        record {
          within = omega arith;
          behind = omega arith;
          text = putting-none page at (form_text words numbers) next m;
        }

    form-next : (i number b n : ℕ) → i < length words → b ≡ get_or words i 0 → n ≡ get_or numbers number 0
        → form_text (drop i words) (drop number numbers)
        ≡ form_byte b n ++ form_text (drop (i + 1) words) (drop (number + marks b) numbers)
    unfolding form_text
    form-next i number b n h e f =
        let same : number + 0 ≡ number = omega arith in
        rw (drop-cons words i 0, add-one, form_text, drop-drop, get_or-drop, same, e, f)

    pub forming-more : (i number b n k : ℕ) {mid new : List ℕ} {next end : ℕ} → i < length words → b ≡ get_or words i 0
        → n ≡ get_or numbers number 0 → k ≡ marks b → k ≤ 1 → Forming i number mid next
        → Put mid next (form_byte b n) new end → Forming (i + 1) (number + k) new end
    forming-more i number b n k h e f m l p q =
        record {
          within = omega arith;
          behind = omega (arith, p.behind);
          text = rw m (putting-more _ _ (form-next i number b n h e f) p.text q);
        }

    pub forming-done : (i number : ℕ) {new : List ℕ} {next : ℕ} → length words ≤ i → Forming i number new next
        → Put page at (form_text words numbers) new next
    unfolding form_text
    forming-done i number h p = putting-done (rw (drop_of_length-le words h)) p.text
