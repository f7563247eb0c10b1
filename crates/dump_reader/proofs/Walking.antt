-- A walk over the words of a text: which are left, and that each step comes nearer to the end.
use mathlib.Core.Path.{◌≡◌, refl, ◌∙◌}
use mathlib.Core.List.{List, [], ◌∷◌}
use Prim.Native.Nat.{ℕ, zero, suc, ◌+◌, ◌≤◌, ◌<◌}
use native.Mathlib.Omega.{arith}
use borrow.Author.Tests.{lt-ltb, le-ltb}
use lib.ListN.{length}
use Rattle.dump_reader.specs.declared.words.Word.{Word}
use Rattle.dump_reader.specs.Words.{word_from, words, words_up_to}
use Rattle.dump_reader.proofs.Spans.{word_end, word_after}

-- at the first word from a place on, these words are left
pub record Walk (text : List ℕ) (word : Word) (left : List Word) : Type 0 where
  pub from : ℕ
  pub most : ℕ
  pub within : from ≤ length text
  pub enough : length text ≤ from + most
  pub here : word ≡ word_from text from
  pub rest : left ≡ words_up_to most text from

pub walk_none : (text : List ℕ) → Walk text (word_from text 0) (words text)
walk_none text =
    record {
      from = 0;
      most = length text;
      within = omega arith;
      enough = omega arith;
      here = refl;
      rest = refl;
    }

-- a whole word is one of those that are left, and the walk goes on after it
pub record Onward (text : List ℕ) (word : Word) (left : List Word) : Type 0 where
  pub others : List Word
  pub split : left ≡ word ∷ others
  pub walk : Walk text (word_from text (word.end + 1)) others

module _ (text : List ℕ) where
  pub walk-within : {word : Word} {left : List Word} → Walk text word left → word.end ≤ length text
  walk-within walk = rw walk.here (word_end text walk.from walk.within)

  words-one : (most from : ℕ) → (word_from text from).end < length text
      → words_up_to (suc most) text from ≡ word_from text from ∷ words_up_to most text ((word_from text from).end + 1)
  unfolding words_up_to
  words-one most from less = rw (lt-ltb (word_from text from).end (length text) less)

  words-none : (most from : ℕ) → length text ≤ (word_from text from).end → words_up_to most text from ≡ []
  unfolding words_up_to
  words-none zero from past = refl
  words-none (suc most) from past = rw (le-ltb (word_from text from).end (length text) past)

  pub walk_more : {word : Word} {left : List Word} → Walk text word left → word.end < length text
      → Onward text word left
  walk_more {word} {left} walk less = go walk.most walk.enough walk.rest (rw walk.here at less)
    where
      go : (most : ℕ) → length text ≤ walk.from + most → left ≡ words_up_to most text walk.from
          → (word_from text walk.from).end < length text → Onward text word left
      go zero enough rest less = absurd (omega (arith, word_after text walk.from))
      go (suc most) enough rest less =
          rw walk.here
          (record {
            others = words_up_to most text ((word_from text walk.from).end + 1);
            split = rest ∙ words-one most walk.from less;
            walk =
                record {
                  from = (word_from text walk.from).end + 1;
                  most = most;
                  within = omega arith;
                  enough = omega (arith, word_after text walk.from);
                  here = refl;
                  rest = refl;
                };
          })

  pub walk-done : {word : Word} {left : List Word} → Walk text word left → length text ≤ word.end → left ≡ []
  walk-done walk past = walk.rest ∙ words-none walk.most walk.from (rw walk.here at past)
