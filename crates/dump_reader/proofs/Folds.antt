-- The passes over the words: what holds of the reader before a word, and what is left to list.
use mathlib.Core.Path.{◌≡◌, refl, sym, ap, ◌∙◌}
use mathlib.Core.Bool.{Bool, true, false, cond}
use mathlib.Core.List.{List, [], ◌∷◌, ◌++◌, append-nil}
use Prim.Native.Nat.{ℕ, ◌+◌, ◌≤◌, ◌<◌}
use native.Mathlib.Omega.{arith}
use lib.Dec.{eqb}
use lib.ListN.{length, length-append}
use lib.Seq.{sets}
use Rattle.laws.specs.Buffer.{filled}
use Rattle.laws.proofs.Buffer.{Progress, progress-none, progress-more, progress-done}
use Rattle.laws.proofs.Buffer.{Writing, writing-none, writing-long, writing-room, writing_more, writing-done}
use Rattle.dump_reader.specs.declared.words.Word.{Word}
use Rattle.dump_reader.specs.declared.reader.Part.{Part}
use Rattle.dump_reader.specs.declared.reader.Wave.{Wave}
use Rattle.dump_reader.specs.declared.reader.Reader.{Reader}
use Rattle.dump_reader.specs.Words.{word_from, words, bytes_of}
use Rattle.dump_reader.specs.Reader.{started, with_place}
use Rattle.dump_reader.specs.Reading.{step_in, step, after, final}
use Rattle.dump_reader.specs.Reading.{completed, listed, stamp_of, level_of, stamps_in, levels_in}
use Rattle.dump_reader.proofs.Spans.{word_after}
use Rattle.dump_reader.proofs.Walking.{Walk, walk_none, Onward, walk_more, walk-done}

-- a word, by the part that the reader is in
pub step-as : (text : List ℕ) (reader : Reader) (word : Word) (part : Part) (next : Reader) → reader.part ≡ part
    → next ≡ step_in part text reader (with_place word.start reader) (bytes_of text word) word
    → next ≡ step text reader word
unfolding step
step-as text reader word part next is same =
    same
    ∙ sym (ap (λ (p : Part). step_in p text reader (with_place word.start reader) (bytes_of text word) word) is)

-- a sample has one stamp and one level
completed-long : (of also : Wave → ℕ) (wave : Wave) (shown : ℕ)
    → length (completed of wave shown) ≡ length (completed also wave shown)
unfolding completed
completed-long of also wave shown = go (eqb wave.shown shown)
  where
    go : (same : Bool) → length (cond same [] (of wave ∷ [])) ≡ length (cond same [] (also wave ∷ []))
    go true = refl
    go false = refl

pub one_at_most : (of : Wave → ℕ) (wave : Wave) (shown : ℕ) → length (completed of wave shown) ≤ 1
unfolding completed
one_at_most of wave shown = go (eqb wave.shown shown)
  where
    go : (same : Bool) → length (cond same [] (of wave ∷ [])) ≤ 1
    go true = omega arith
    go false = omega arith

pub as_many : (of also : Wave → ℕ) (text : List ℕ) (reader : Reader) (left : List Word)
    → length (listed of text reader left) ≡ length (listed also text reader left)
as_many of also text reader [] = completed-long of also reader.wave reader.wave.level
as_many of also text reader (word ∷ left) =
    let shown = (step text reader word).wave.shown in
    let next = step text reader word in
    omega (
      arith,
      completed-long of also reader.wave shown,
      as_many of also text next left,
      length-append (completed of reader.wave shown) (listed of text next left),
      length-append (completed also reader.wave shown) (listed also text next left),
    )

-- the words before this one led to this reader, and completed so many samples
pub record Counted (text : List ℕ) (reader : Reader) (count : ℕ) (word : Word) : Type 0 where
  pub left : List Word
  pub walk : Walk text word left
  pub few : count ≤ word.end
  pub last : final text ≡ after text reader left
  pub progress : Progress (stamps_in text) (listed stamp_of text reader left) count

-- the slices start with the samples that are complete, and their rest stays
pub record Stored (text stamps₀ levels₀ stamps levels : List ℕ) (reader : Reader) (count : ℕ) (word : Word)
    : Type 0 where
  pub left : List Word
  pub walk : Walk text word left
  pub stamped : Writing (stamps_in text) (listed stamp_of text reader left) stamps₀ stamps count
  pub stored : Writing (levels_in text) (listed level_of text reader left) levels₀ levels count

module _ (text : List ℕ) where
  pub counted_none : Counted text started 0 (word_from text 0)
  counted_none =
      record {
        left = words text;
        walk = walk_none text;
        few = omega arith;
        last = refl;
        progress = progress-none (stamps_in text);
      }

  pub stored-none : (stamps levels : List ℕ) → Stored text stamps levels stamps levels started 0 (word_from text 0)
  stored-none stamps levels =
      record {
        left = words text;
        walk = walk_none text;
        stamped = writing-none (stamps_in text) stamps;
        stored = writing-none (levels_in text) levels;
      }

  -- what is left to list, where a word is left
  listed_more : (of : Wave → ℕ) (reader next : Reader) (word : Word) (left others : List Word)
      → next ≡ step text reader word → left ≡ word ∷ others
      → listed of text reader left ≡ completed of reader.wave next.wave.shown ++ listed of text next others
  listed_more of reader next word left others is split = rw (is, split)

  pub counted-more : (reader next : Reader) (count : ℕ) (word : Word) → next ≡ step text reader word
      → word.end < length text → Counted text reader count word
      → Counted text next (count + length (completed stamp_of reader.wave next.wave.shown))
      (word_from text (word.end + 1))
  counted-more reader next count word is less counted =
      let on = walk_more text counted.walk less in
      record {
        left = on.others;
        walk = on.walk;
        few = omega (
          arith,
          counted.few,
          one_at_most stamp_of reader.wave next.wave.shown,
          word_after text (word.end + 1),
        );
        last =
            counted.last ∙ ap (after text reader) on.split
            ∙ ap (λ (r : Reader). after text r on.others) (sym is);
        progress =
            progress-more (stamps_in text) (listed stamp_of text reader counted.left)
            (completed stamp_of reader.wave next.wave.shown) (listed stamp_of text next on.others) count
            (listed_more stamp_of reader next word counted.left on.others is on.split)
            counted.progress;
      }

  -- at the end of the text the last sample is complete too
  listed-last : (of : Wave → ℕ) (reader : Reader) (left : List Word) → left ≡ []
      → listed of text reader left ≡ completed of reader.wave reader.wave.level ++ []
  listed-last of reader left none = rw none (sym (append-nil (completed of reader.wave reader.wave.level)))

  module _ (reader : Reader) (count : ℕ) (word : Word) (end : length text ≤ word.end) where
    pub counted-reader : Counted text reader count word → reader ≡ final text
    counted-reader counted = sym (counted.last ∙ ap (after text reader) (walk-done text counted.walk end))

    pub counted-all : Counted text reader count word
        → count + length (completed stamp_of reader.wave reader.wave.level) ≡ length (stamps_in text)
    counted-all counted =
        let last = completed stamp_of reader.wave reader.wave.level in
        let split = listed-last stamp_of reader counted.left (walk-done text counted.walk end) in
        progress-done (stamps_in text) [] (count + length last) refl
        (progress-more (stamps_in text) (listed stamp_of text reader counted.left) last [] count split
        counted.progress)

  module _
      (stamps₀ levels₀ : List ℕ)
      (room : length (stamps_in text) ≤ length stamps₀)
      (room-too : length (levels_in text) ≤ length levels₀)
      (stamps levels : List ℕ)
      (reader : Reader)
      (count : ℕ)
      (word : Word)
      (stored : Stored text stamps₀ levels₀ stamps levels reader count word)
    where
      pub stored-long : length stamps ≡ length stamps₀
      stored-long = writing-long _ _ _ _ _ room stored.stamped

      pub stored-long-too : length levels ≡ length levels₀
      stored-long-too = writing-long _ _ _ _ _ room-too stored.stored

      module _ (next : Reader) (is : next ≡ step text reader word) (less : word.end < length text) where
        on : Onward text word stored.left
        on = walk_more text stored.walk less

        abbrev now-listed : (Wave → ℕ) → List ℕ
        now-listed of = completed of reader.wave next.wave.shown

        abbrev then-listed : (Wave → ℕ) → List ℕ
        then-listed of = listed of text next on.others

        more : (of : Wave → ℕ) → listed of text reader stored.left ≡ now-listed of ++ then-listed of
        more of = listed_more of reader next word stored.left on.others is on.split

        pub stored-room : count + length (completed stamp_of reader.wave next.wave.shown) ≤ length stamps
        stored-room =
            writing-room _ _ _ _ _ room stored.stamped (now-listed stamp_of) (then-listed stamp_of)
            (more stamp_of)

        pub stored-room-too : count + length (completed level_of reader.wave next.wave.shown) ≤ length levels
        stored-room-too =
            writing-room _ _ _ _ _ room-too stored.stored (now-listed level_of) (then-listed level_of)
            (more level_of)

        pub stored_more : Stored text stamps₀ levels₀
            (sets stamps count (completed stamp_of reader.wave next.wave.shown))
            (sets levels count (completed level_of reader.wave next.wave.shown))
            next (count + length (completed stamp_of reader.wave next.wave.shown))
            (word_from text (word.end + 1))
        stored_more =
            record {
              left = on.others;
              walk = on.walk;
              stamped =
                  writing_more _ _ _ _ _ room stored.stamped (now-listed stamp_of) (then-listed stamp_of)
                  (more stamp_of);
              stored =
                  rw (completed-long stamp_of level_of reader.wave next.wave.shown)
                  (writing_more _ _ _ _ _ room-too stored.stored (now-listed level_of) (then-listed level_of)
                  (more level_of));
            }

      module _ (end : length text ≤ word.end) where
        abbrev last-listed : (Wave → ℕ) → List ℕ
        last-listed of = completed of reader.wave reader.wave.level

        last : (of : Wave → ℕ) → listed of text reader stored.left ≡ last-listed of ++ []
        last of = listed-last of reader stored.left (walk-done text stored.walk end)

        pub last-room : count + length (completed stamp_of reader.wave reader.wave.level) ≤ length stamps
        last-room = writing-room _ _ _ _ _ room stored.stamped (last-listed stamp_of) [] (last stamp_of)

        pub last-room-too : count + length (completed level_of reader.wave reader.wave.level) ≤ length levels
        last-room-too = writing-room _ _ _ _ _ room-too stored.stored (last-listed level_of) [] (last level_of)

        pub stamps-all : sets stamps count (completed stamp_of reader.wave reader.wave.level)
            ≡ filled (stamps_in text) stamps₀
        stamps-all =
            writing-done _ _ _ _ _ room
            (writing_more _ _ _ _ _ room stored.stamped (last-listed stamp_of) [] (last stamp_of)) refl

        pub levels-all : sets levels count (completed level_of reader.wave reader.wave.level)
            ≡ filled (levels_in text) levels₀
        levels-all =
            writing-done _ _ _ _ _ room-too
            (writing_more _ _ _ _ _ room-too stored.stored (last-listed level_of) [] (last level_of)) refl
