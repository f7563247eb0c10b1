-- The run at the front of a text, counted byte by byte.
use mathlib.Core.Path.{◌≡◌, refl, sym, ap, ◌∙◌}
use mathlib.Core.Bool.{Bool, true, false, cond}
use mathlib.Core.List.{List, [], ◌∷◌}
use Prim.Native.Nat.{ℕ, suc, ◌+◌, ◌-◌, ◌≤◌, ◌<◌}
use native.Mathlib.Numerals.{add-one}
use native.Mathlib.Omega.{arith}
use lib.ListN.{length, get_or, take, drop, length-take, length-drop, drop_of_length-le}
use lib.Seq.{drop-cons, take_all}
use Rattle.text.specs.declared.words.Run.TheVariants.{Line, Blanks, Word}
use Rattle.std.specs.List.{take_while, prefix_len}
use Rattle.std.proofs.lemmas.List.Folds.{length-prefix_len}
use Rattle.text.specs.Words.{belongs, run_length, after_line, first_word, after_word}

module _ (test : ℕ → Bool) where
  -- the run from byte i on goes by whether byte i belongs to it
  run-next : (s : List ℕ) (i : ℕ) (b : Bool) → i < length s → test (get_or s i 0) ≡ b
      → run_length test (drop i s) ≡ cond b (suc (run_length test (drop (i + 1) s))) 0
  unfolding run_length
  run-next s i b h t = rw (drop-cons s i 0, t, add-one)

  run_past : (s : List ℕ) (i : ℕ) → length s ≤ i → run_length test (drop i s) ≡ 0
  unfolding run_length
  run_past s i h = rw (drop_of_length-le s h)

  -- the first i bytes of a text belong to the run
  pub record Run (s : List ℕ) (i : ℕ) : Type 0 where
    pub within : i ≤ length s
    pub counted : run_length test s ≡ i + run_length test (drop i s)

  pub run_none : (s : List ℕ) → Run s 0
  run_none s = record { within = omega arith; counted = omega arith }

  pub run_more : (s : List ℕ) (i : ℕ) → i < length s → test (get_or s i 0) ≡ true → Run s i → Run s (i + 1)
  run_more s i h t p = record { within = omega arith; counted = omega (arith, run-next s i true h t) }

  pub run_end : (s : List ℕ) (i : ℕ) → i < length s → test (get_or s i 0) ≡ false → Run s i → i ≡ run_length test s
  run_end s i h t p = omega (arith, run-next s i false h t)

  pub run-all : (s : List ℕ) (i : ℕ) → length s ≤ i → Run s i → i ≡ run_length test s
  run-all s i h p = omega (arith, run_past s i h)

  pub run-within : (s : List ℕ) → run_length test s ≤ length s
  unfolding run_length
  run-within [] = omega arith
  run-within (b ∷ bs) = at-most (test b) (run_length test bs) (run-within bs)
    where
      at-most : (v : Bool) (n : ℕ) → n ≤ length bs → cond v (suc n) 0 ≤ suc (length bs)
      at-most true n h = omega arith
      at-most false n h = omega arith

  -- what the library counts
  counted : (s : List ℕ) → prefix_len test s ≡ run_length test s
  unfolding run_length
  counted [] = refl
  counted (b ∷ bs) = go (test b) (counted bs)
    where
      go : (v : Bool) → prefix_len test bs ≡ run_length test bs
          → cond v (1 + prefix_len test bs) 0 ≡ cond v (suc (run_length test bs)) 0
      go true rest = omega (arith, rest)
      go false rest = refl

  pub counted-run : (s : List ℕ) → length (take_while test s) ≡ run_length test s
  counted-run s = length-prefix_len test s ∙ counted s

-- the part from n to the end is what `drop` leaves
pub to_end : (n : ℕ) (l : List ℕ) → take (length l - n) (drop n l) ≡ drop n l
to_end n l = take_all (length l - n) (drop n l) (omega (arith, length-drop n l))

-- past a line's newline, and where there is none
pub past-newline : (n k : ℕ) (l : List ℕ) → n ≡ k → take (length l - (n + 1)) (drop (n + 1) l) ≡ drop (suc k) l
past-newline n k l e = to_end (n + 1) l ∙ ap (λ (i : ℕ). drop i l) (add-one n ∙ ap suc e)

pub past-last : (n k : ℕ) (l : List ℕ) → n ≡ k → length l ≤ n → take (length l - n) (drop n l) ≡ drop (suc k) l
past-last n k l e h =
    let past : length l ≤ suc k = omega arith in
    to_end n l ∙ drop_of_length-le l h ∙ sym (drop_of_length-le l past)

-- a loop that goes from line to line, or from word to word, ends
pub after-line-shorter : (t : List ℕ) → 0 < length t → length (after_line t) < length t
after-line-shorter t h = omega (arith, length-drop (suc (run_length (belongs Line) t)) t)

pub after-word-shorter : (l : List ℕ) → 0 < length (first_word l) → length (after_word l) < length l
after-word-shorter l h =
    let blanks = run_length (belongs Blanks) l in
    let word = run_length (belongs Word) (drop blanks l) in
    omega (arith, length-drop blanks l, length-drop word (drop blanks l), length-take word (drop blanks l))
