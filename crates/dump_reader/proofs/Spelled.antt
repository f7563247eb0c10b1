-- Words that are written one after the other, each with the byte that parts it from the next, are read as these words.
use mathlib.Core.Path.{◌≡◌, refl, ap, ◌∙◌}
use mathlib.Core.Bool.{Bool, true, false, cond, not, ◌&&◌, false≢true}
use mathlib.Core.List.{List, [], ◌∷◌, ◌++◌, append_assoc, append-nil}
use Prim.Native.Nat.{ℕ, zero, suc, ◌+◌, ◌-◌, ◌≤◌, ◌<◌}
use native.Mathlib.Omega.{arith}
use borrow.Author.Tests.{lt-ltb, le-ltb, not-true}
use lib.Dec.{ltb}
use lib.ListN.{length, take, drop, length-append}
use lib.Seq.{drop-append_seam, take-append_seam}
use Rattle.laws.specs.Search.{all}
use Rattle.laws.proofs.Bools.{both}
use Rattle.text.specs.Words.{run_length}
use Rattle.dump_reader.specs.declared.words.Word.{Word}
use Rattle.dump_reader.specs.declared.words.Run.TheVariants.{Parting, Word as InWord}
use Rattle.dump_reader.specs.Words.{parting, belongs, word_start, word_from, words, words_up_to, bytes_of}

-- a word, and the byte that parts it from the next
pub record Spelt : Type 0 where
  pub bytes : List ℕ
  pub parted : ℕ

abbrev pub spelled : List Spelt → List ℕ
spelled [] = []
spelled (word ∷ others) = word.bytes ++ word.parted ∷ spelled others

-- it has a byte, none that parts words, and such a byte follows
abbrev pub some : List ℕ → Bool
some [] = false
some (b ∷ bytes) = true

abbrev pub proper : Spelt → Bool
proper word = some word.bytes && (all (belongs InWord) word.bytes && parting word.parted)

-- where each begins and ends
abbrev pub spanned : ℕ → List ℕ → Word
spanned at bytes = record { start = at; end = at + length bytes }

abbrev pub placed : ℕ → List Spelt → List Word
placed at [] = []
placed at (word ∷ others) = spanned at word.bytes ∷ placed (at + length word.bytes + 1) others

run-over : (test : ℕ → Bool) (front : List ℕ) (b : ℕ) (rest : List ℕ) → all test front ≡ true → test b ≡ false
    → run_length test (front ++ b ∷ rest) ≡ length front
unfolding run_length
run-over test [] b rest passes stops = rw stops
run-over test (a ∷ front) b rest passes stops =
    let two = both (test a) (all test front) passes in
    rw two.0 (ap suc (run-over test front b rest two.1 stops))

no_run : (front rest : List ℕ) → some front ≡ true → all (belongs InWord) front ≡ true
    → run_length (belongs Parting) (front ++ rest) ≡ 0
unfolding run_length
no_run [] rest has passes = absurd (false≢true has)
no_run (b ∷ front) rest has passes =
    let two = both (not (parting b)) (all (belongs InWord) front) passes in
    rw (not-true (parting b) two.0)

abbrev word_at : ℕ → ℕ → Word
word_at start end = record { start = start; end = end }

module _ (pre : List ℕ) (word : Spelt) (rest : List ℕ) where
  abbrev text : List ℕ
  text = pre ++ (word.bytes ++ word.parted ∷ rest)

  here : drop (length pre) text ≡ word.bytes ++ word.parted ∷ rest
  here = drop-append_seam pre (word.bytes ++ word.parted ∷ rest)

  pub bytes-here : bytes_of text (spanned (length pre) word.bytes) ≡ word.bytes
  bytes-here =
      let long : length pre + length word.bytes - length pre ≡ length word.bytes = omega arith in
      ap (λ (n : ℕ). take n (drop (length pre) text)) long
      ∙ ap (take (length word.bytes)) here
      ∙ take-append_seam word.bytes (word.parted ∷ rest)

  text-long : length text ≡ length pre + (length word.bytes + suc (length rest))
  text-long =
      length-append pre (word.bytes ++ word.parted ∷ rest)
      ∙ ap (λ (n : ℕ). length pre + n) (length-append word.bytes (word.parted ∷ rest))

  module _ (is-proper : proper word ≡ true) where
    has : some word.bytes ≡ true
    has = (both (some word.bytes) (all (belongs InWord) word.bytes && parting word.parted) is-proper).0

    rules : (all (belongs InWord) word.bytes ≡ true) × (parting word.parted ≡ true)
    rules =
        both (all (belongs InWord) word.bytes) (parting word.parted)
        (both (some word.bytes) (all (belongs InWord) word.bytes && parting word.parted) is-proper).1

    start : word_start text (length pre) ≡ length pre
    start =
        let none : run_length (belongs Parting) (drop (length pre) text) ≡ 0 =
        ap (run_length (belongs Parting)) here ∙ no_run word.bytes (word.parted ∷ rest) has rules.0 in
        omega arith

    long : run_length (belongs InWord) (drop (length pre) text) ≡ length word.bytes
    long =
        ap (run_length (belongs InWord)) here
        ∙ run-over (belongs InWord) word.bytes word.parted rest rules.0 (ap not rules.1)

    word-here : word_from text (length pre) ≡ spanned (length pre) word.bytes
    word-here =
        ap (λ (s : ℕ). word_at s (s + run_length (belongs InWord) (drop s text))) start
        ∙ ap (λ (n : ℕ). word_at (length pre) (length pre + n)) long

    pub words-here : (most : ℕ) → words_up_to (suc most) text (length pre)
        ≡ spanned (length pre) word.bytes ∷ words_up_to most text (length pre + length word.bytes + 1)
    unfolding words_up_to
    words-here most =
        let less : length pre + length word.bytes < length text = omega (arith, text-long) in
        ap
        (λ (w : Word). cond (ltb w.end (length text)) (w ∷ words_up_to most text (w.end + 1)) [])
        word-here
        ∙ rw (lt-ltb (length pre + length word.bytes) (length text) less)

-- past the last one there is none
past_all : (pre : List ℕ) (most : ℕ) → words_up_to most pre (length pre) ≡ []
unfolding words_up_to
past_all pre zero = refl
past_all pre (suc most) =
    let past : length pre ≤ (word_from pre (length pre)).end = omega arith in
    rw (le-ltb (word_from pre (length pre)).end (length pre) past)

none_left : (pre : List ℕ) (most : ℕ) → words_up_to most (pre ++ []) (length pre) ≡ []
none_left pre most = rw (append-nil pre) (past_all pre most)

-- the text before the next word
abbrev pub up_to : List ℕ → Spelt → List ℕ
up_to pre word = pre ++ (word.bytes ++ word.parted ∷ [])

pub same_text : (pre : List ℕ) (word : Spelt) (rest : List ℕ)
    → up_to pre word ++ rest ≡ pre ++ (word.bytes ++ word.parted ∷ rest)
same_text pre word rest =
    append_assoc pre (word.bytes ++ word.parted ∷ []) rest
    ∙ ap (λ (l : List ℕ). pre ++ l) (append_assoc word.bytes (word.parted ∷ []) rest)

pub next_place : (pre : List ℕ) (word : Spelt) → length (up_to pre word) ≡ length pre + length word.bytes + 1
next_place pre word =
    length-append pre (word.bytes ++ word.parted ∷ [])
    ∙ ap (λ (n : ℕ). length pre + n) (length-append word.bytes (word.parted ∷ []))
    ∙ omega arith

spelled-words : (pre : List ℕ) (ws : List Spelt) (most : ℕ) → all proper ws ≡ true → length ws ≤ most
    → words_up_to most (pre ++ spelled ws) (length pre) ≡ placed (length pre) ws
spelled-words pre [] most each enough = none_left pre most
spelled-words pre (word ∷ ws) zero each enough = absurd (omega arith)
spelled-words pre (word ∷ ws) (suc most) each enough =
    let two = both (proper word) (all proper ws) each in
    let few : length ws ≤ most = omega arith in
    words-here pre word (spelled ws) two.0 most
    ∙ ap (λ (l : List Word). spanned (length pre) word.bytes ∷ l)
    (rw (same_text pre word (spelled ws), next_place pre word) at (spelled-words (up_to pre word) ws most two.1 few))

-- each word takes a byte and the one that parts it
words-few : (ws : List Spelt) → length ws ≤ length (spelled ws)
words-few [] = omega arith
words-few (word ∷ ws) = omega (arith, words-few ws, length-append word.bytes (word.parted ∷ spelled ws))

pub words-spelled : (ws : List Spelt) → all proper ws ≡ true → words (spelled ws) ≡ placed 0 ws
words-spelled ws each = spelled-words [] ws (length (spelled ws)) each (words-few ws)
