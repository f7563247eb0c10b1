-- The lines of the samples read back as the samples, but for those that change nothing.
use mathlib.Core.Path.{◌≡◌, refl, sym, ap, ap₂, subst, ◌∙◌}
use mathlib.Core.Bool.{Bool, true, false, cond, ◌&&◌, beq}
use mathlib.Core.List.{List, [], ◌∷◌, ◌++◌, map, append_assoc}
use Prim.Native.Nat.{ℕ, ◌+◌, ◌^◌, ◌≤◌, ◌<◌}
use native.Mathlib.Omega.{arith}
use borrow.Author.Tests.{lt-leb, le-ltb, eq-eqb, eqb-true, ne_eqb, eqb-false}
use mir.Val.{bool_byte}
use lib.Dec.{eqb}
use lib.ListN.{length}
use Rattle.laws.specs.Same.{same}
use Rattle.levels.specs.Levels.{scl, sda, level_of}
use Rattle.trace.specs.Limits.{largest_stamp}
use Rattle.trace.specs.Samples.{samples, stamps_of, levels_of}
use Rattle.trace.specs.Changes.{changes_from}
use Rattle.text.specs.Output.{decimal_text}
use Rattle.dump_reader.specs.declared.words.Word.{Word}
use Rattle.dump_reader.specs.declared.reader.Part.TheVariants.{Values}
use Rattle.dump_reader.specs.declared.reader.Wave.{Wave}
use Rattle.dump_reader.specs.declared.reader.Reader.{Reader}
use Rattle.dump_reader.specs.Words.{bytes_of}
use Rattle.dump_reader.specs.Reader.{started, no_sample}
use Rattle.dump_reader.specs.Values.{with_line, judge, assign, change}
use Rattle.dump_reader.specs.Reading as read
use Rattle.dump_reader.proofs.Decimal.{number-back}
use Rattle.dump_reader.proofs.Spelled.{Spelt, spelled, placed, spanned}
use Rattle.dump_reader.proofs.Spelled.{bytes-here, up_to, same_text, next_place}
use Rattle.dump_reader.proofs.Header.{reading, scl_word, sda_word}

-- the identifiers of the two wires in a dump
abbrev pub scl_wire : ℕ
scl_wire = 0x21

abbrev pub sda_wire : ℕ
sda_wire = 0x22

-- the words of a sample
abbrev pub stamp_word : ℕ → Spelt
stamp_word stamp = record { bytes = 0x23 ∷ decimal_text stamp; parted = 0x0a }

abbrev pub value_word : Bool → ℕ → Spelt
value_word high wire = record { bytes = (0x30 + bool_byte high) ∷ wire ∷ []; parted = 0x0a }

abbrev pub change_words : Bool → Bool → ℕ → List Spelt
change_words was high wire = cond (beq high was) [] (value_word high wire ∷ [])

abbrev pub sample_words : ℕ → ℕ → ℕ → List Spelt
sample_words last stamp level =
    cond (beq (scl level) (scl last) && beq (sda level) (sda last)) []
    (stamp_word stamp
    ∷ (change_words (scl last) (scl level) scl_wire ++ change_words (sda last) (sda level) sda_wire))

abbrev pub first_words : ℕ → ℕ → List Spelt
first_words stamp level =
    stamp_word stamp ∷ value_word (scl level) scl_wire ∷ value_word (sda level) sda_wire ∷ []

abbrev pub words_after : ℕ → List ℕ → List ℕ → List Spelt
words_after last [] levels = []
words_after last (stamp ∷ stamps) [] = []
words_after last (stamp ∷ stamps) (level ∷ levels) = sample_words last stamp level ++ words_after level stamps levels

pub spelled-append : (one other : List Spelt) → spelled (one ++ other) ≡ spelled one ++ spelled other
spelled-append [] other = refl
spelled-append (word ∷ one) other =
    ap (λ (l : List ℕ). word.bytes ++ word.parted ∷ l) (spelled-append one other)
    ∙ sym (append_assoc word.bytes (word.parted ∷ spelled one) (spelled other))

-- after a stamp, and after values for both wires too
abbrev pub begun : ℕ → ℕ → ℕ → ℕ → Wave
begun stamp known level shown =
    record { stamped = true; stamp = stamp; known = known; level = level; shown = shown }

abbrev pub waving : ℕ → ℕ → ℕ → Wave
waving stamp level shown = begun stamp 3 level shown

-- from here on the rest of a text reads as these samples, in the unit of the dump
pub record Reads (text : List ℕ) (reader : Reader) (left : List Word) (stamps levels : List ℕ) : Type 0 where
  pub part : (read.after text reader left).part ≡ Values
  pub known : (read.after text reader left).wave.known ≡ 3
  pub timescale : (read.after text reader left).timescale ≡ 100000000
  pub stamped : read.listed read.stamp_of text reader left ≡ stamps
  pub leveled : read.listed read.level_of text reader left ≡ levels

none_done : (of : Wave → ℕ) (wave : Wave) → read.completed of wave wave.shown ≡ []
unfolding read.completed
none_done of wave = rw (eq-eqb wave.shown wave.shown refl)

one-done : (of : Wave → ℕ) (wave : Wave) (shown : ℕ) → eqb wave.shown shown ≡ false
    → read.completed of wave shown ≡ of wave ∷ []
unfolding read.completed
one-done of wave shown other = rw other

-- stamps that rise from one on, of 32 bits; levels of two lines
abbrev pub Above : ℕ → List ℕ → Type 0
Above stamp [] = Unit {0}
Above stamp (next ∷ stamps) = (stamp < next) × ((next ≤ largest_stamp) × Above next stamps)

abbrev pub Legal : List ℕ → Type 0
Legal [] = Unit {0}
Legal (level ∷ levels) = (level_of (scl level) (sda level) ≡ level) × Legal levels

above-less : (stamp next : ℕ) (stamps : List ℕ) → stamp < next → Above next stamps → Above stamp stamps
above-less stamp next [] less above = tt
above-less stamp next (other ∷ stamps) less above = let far : stamp < other = omega (arith, above.0) in (far, above.1)

-- two levels are the same where both lines are
same-level : (scl sda scl-was sda-was : Bool)
    → eqb (level_of scl sda) (level_of scl-was sda-was) ≡ beq scl scl-was && beq sda sda-was
same-level true true true true = refl
same-level true true true false = refl
same-level true true false true = refl
same-level true true false false = refl
same-level true false true true = refl
same-level true false true false = refl
same-level true false false true = refl
same-level true false false false = refl
same-level false true true true = refl
same-level false true true false = refl
same-level false true false true = refl
same-level false true false false = refl
same-level false false true true = refl
same-level false false true false = refl
same-level false false false true = refl
same-level false false false false = refl

module _ (text : List ℕ) (scl-is : bytes_of text scl_word ≡ 0x21 ∷ []) (sda-is : bytes_of text sda_word ≡ 0x22 ∷ []) where
  stamp-step : (place stamp level shown next : ℕ) (word : Word) → bytes_of text word ≡ 0x23 ∷ decimal_text next
      → stamp < next → next ≤ largest_stamp
      → read.step text (reading place (waving stamp level shown)) word
      ≡ reading word.start (waving next level level)
  unfolding read.step change judge
  stamp-step place stamp level shown next word is above small =
      let fits : next < 2 ^ 64 = omega arith in
      rw (is, number-back next fits, lt-leb next stamp above, le-ltb largest_stamp next small)

  value-step : (place stamp known level shown : ℕ) (high : Bool) (word : Word)
      → bytes_of text word ≡ (0x30 + bool_byte high) ∷ scl_wire ∷ []
      → read.step text (reading place (begun stamp known level shown)) word
      ≡ reading word.start (begun stamp (with_line known true true) (with_line level true high) shown)
  unfolding read.step change assign same with_line
  value-step place stamp known level shown true word is = rw (is, scl-is)
  value-step place stamp known level shown false word is = rw (is, scl-is)

  data-step : (place stamp known level shown : ℕ) (high : Bool) (word : Word)
      → bytes_of text word ≡ (0x30 + bool_byte high) ∷ sda_wire ∷ []
      → read.step text (reading place (begun stamp known level shown)) word
      ≡ reading word.start (begun stamp (with_line known false true) (with_line level false high) shown)
  unfolding read.step change assign same with_line
  data-step place stamp known level shown true word is = rw (is, scl-is, sda-is)
  data-step place stamp known level shown false word is = rw (is, scl-is, sda-is)

  -- what is listed after a step, by the reader after it
  listed_by : (of : Wave → ℕ) (reader next : Reader) (word : Word) (left : List Word)
      → read.step text reader word ≡ next
      → read.listed of text reader (word ∷ left)
      ≡ read.completed of reader.wave next.wave.shown ++ read.listed of text next left
  listed_by of reader next word left is =
      ap
      (λ (r : Reader). read.completed of reader.wave r.wave.shown ++ read.listed of text r left)
      is

  -- a word after which the same level is shown completes no sample
  quiet : (reader next : Reader) (word : Word) (left : List Word) (stamps levels : List ℕ)
      → read.step text reader word ≡ next → next.wave.shown ≡ reader.wave.shown
      → Reads text next left stamps levels → Reads text reader (word ∷ left) stamps levels
  quiet reader next word left stamps levels is still reads =
      record {
        part = ap (λ (r : Reader). (read.after text r left).part) is ∙ reads.part;
        known = ap (λ (r : Reader). (read.after text r left).wave.known) is ∙ reads.known;
        timescale = ap (λ (r : Reader). (read.after text r left).timescale) is ∙ reads.timescale;
        stamped = none read.stamp_of ∙ reads.stamped;
        leveled = none read.level_of ∙ reads.leveled;
      }
    where
      none : (of : Wave → ℕ) → read.listed of text reader (word ∷ left) ≡ read.listed of text next left
      none of =
          listed_by of reader next word left is
          ∙ ap (λ (l : List ℕ). l ++ read.listed of text next left)
          (ap (read.completed of reader.wave) still ∙ none_done of reader.wave)

  -- a word after which another level is shown completes one
  complete : (reader next : Reader) (word : Word) (left : List Word) (stamps levels : List ℕ)
      → read.step text reader word ≡ next → eqb reader.wave.shown next.wave.shown ≡ false
      → Reads text next left stamps levels
      → Reads text reader (word ∷ left) (reader.wave.stamp ∷ stamps) (reader.wave.level ∷ levels)
  complete reader next word left stamps levels is other reads =
      record {
        part = ap (λ (r : Reader). (read.after text r left).part) is ∙ reads.part;
        known = ap (λ (r : Reader). (read.after text r left).wave.known) is ∙ reads.known;
        timescale = ap (λ (r : Reader). (read.after text r left).timescale) is ∙ reads.timescale;
        stamped = one read.stamp_of ∙ ap (λ (l : List ℕ). reader.wave.stamp ∷ l) reads.stamped;
        leveled = one read.level_of ∙ ap (λ (l : List ℕ). reader.wave.level ∷ l) reads.leveled;
      }
    where
      one : (of : Wave → ℕ)
          → read.listed of text reader (word ∷ left) ≡ of reader.wave ∷ read.listed of text next left
      one of =
          listed_by of reader next word left is
          ∙ ap (λ (l : List ℕ). l ++ read.listed of text next left)
          (one-done of reader.wave next.wave.shown other)

  -- wherever these words stand, they read as these samples
  abbrev Rest : List Spelt → Wave → List ℕ → List ℕ → Type 0
  Rest ws wave stamps levels =
      (pre : List ℕ) (place : ℕ) → text ≡ pre ++ spelled ws
      → Reads text (reading place wave) (placed (length pre) ws) stamps levels

  module _ (word : Spelt) (ws : List Spelt) (pre : List ℕ) (is : text ≡ pre ++ spelled (word ∷ ws)) where
    here : bytes_of text (spanned (length pre) word.bytes) ≡ word.bytes
    here = rw is (bytes-here pre word (spelled ws))

    onward : {wave : Wave} {stamps levels : List ℕ} → Rest ws wave stamps levels
        → Reads text (reading (length pre) wave) (placed (length pre + length word.bytes + 1) ws) stamps levels
    onward rest =
        rw (next_place pre word) at
        (rest (up_to pre word) (length pre) (is ∙ sym (same_text pre word (spelled ws))))

  -- one line of SCL or of SDA
  scl-word : (stamp known level shown : ℕ) (high : Bool) (ws : List Spelt) (stamps levels : List ℕ)
      → Rest ws (begun stamp (with_line known true true) (with_line level true high) shown) stamps levels
      → Rest (value_word high scl_wire ∷ ws) (begun stamp known level shown) stamps levels
  scl-word stamp known level shown high ws stamps levels rest pre place is =
      let word = value_word high scl_wire in
      let span = spanned (length pre) word.bytes in
      quiet _ _ span _ _ _
      (value-step place stamp known level shown high span (here word ws pre is)) refl (onward word ws pre is rest)

  sda-word : (stamp known level shown : ℕ) (high : Bool) (ws : List Spelt) (stamps levels : List ℕ)
      → Rest ws (begun stamp (with_line known false true) (with_line level false high) shown) stamps levels
      → Rest (value_word high sda_wire ∷ ws) (begun stamp known level shown) stamps levels
  sda-word stamp known level shown high ws stamps levels rest pre place is =
      let word = value_word high sda_wire in
      let span = spanned (length pre) word.bytes in
      quiet _ _ span _ _ _
      (data-step place stamp known level shown high span (here word ws pre is)) refl (onward word ws pre is rest)

  stamp-word : (stamp level shown next : ℕ) (ws : List Spelt) (stamps levels : List ℕ) → stamp < next
      → next ≤ largest_stamp → eqb shown level ≡ false → Rest ws (waving next level level) stamps levels
      → Rest (stamp_word next ∷ ws) (waving stamp level shown) (stamp ∷ stamps) (level ∷ levels)
  stamp-word stamp level shown next ws stamps levels above small other rest pre place is =
      let word = stamp_word next in
      let span = spanned (length pre) word.bytes in
      complete _ _ span _ _ _
      (stamp-step place stamp level shown next span (here word ws pre is) above small) other
      (onward word ws pre is rest)

  -- a line where the wire changed
  scl-change : (stamp shown : ℕ) (was high sda : Bool) (ws : List Spelt) (stamps levels : List ℕ)
      → Rest ws (waving stamp (level_of high sda) shown) stamps levels
      → Rest (change_words was high scl_wire ++ ws) (waving stamp (level_of was sda) shown) stamps levels
  unfolding with_line
  scl-change stamp shown true true sda ws stamps levels rest = rest
  scl-change stamp shown false false sda ws stamps levels rest = rest
  scl-change stamp shown true false true ws stamps levels rest = scl-word stamp 3 3 shown false ws stamps levels rest
  scl-change stamp shown true false false ws stamps levels rest = scl-word stamp 3 1 shown false ws stamps levels rest
  scl-change stamp shown false true true ws stamps levels rest = scl-word stamp 3 2 shown true ws stamps levels rest
  scl-change stamp shown false true false ws stamps levels rest = scl-word stamp 3 0 shown true ws stamps levels rest

  sda-change : (stamp shown : ℕ) (was high scl : Bool) (ws : List Spelt) (stamps levels : List ℕ)
      → Rest ws (waving stamp (level_of scl high) shown) stamps levels
      → Rest (change_words was high sda_wire ++ ws) (waving stamp (level_of scl was) shown) stamps levels
  unfolding with_line
  sda-change stamp shown true true scl ws stamps levels rest = rest
  sda-change stamp shown false false scl ws stamps levels rest = rest
  sda-change stamp shown true false true ws stamps levels rest = sda-word stamp 3 3 shown false ws stamps levels rest
  sda-change stamp shown true false false ws stamps levels rest = sda-word stamp 3 2 shown false ws stamps levels rest
  sda-change stamp shown false true true ws stamps levels rest = sda-word stamp 3 1 shown true ws stamps levels rest
  sda-change stamp shown false true false ws stamps levels rest = sda-word stamp 3 0 shown true ws stamps levels rest

  rest-as : (ws others : List Spelt) (wave : Wave) (stamps stamps-too levels levels-too : List ℕ) → ws ≡ others
      → stamps ≡ stamps-too → levels ≡ levels-too → Rest ws wave stamps levels → Rest others wave stamps-too levels-too
  rest-as ws others wave stamps stamps-too levels levels-too p q r rest =
      subst (λ (l : List ℕ). Rest others wave stamps-too l) r
      (subst (λ (l : List ℕ). Rest others wave l levels) q
      (subst (λ (l : List Spelt). Rest l wave stamps levels) p rest))

  wave-as : (ws : List Spelt) (stamp level level_too shown : ℕ) (stamps levels : List ℕ) → level ≡ level_too
      → Rest ws (waving stamp level shown) stamps levels → Rest ws (waving stamp level_too shown) stamps levels
  wave-as ws stamp level level_too shown stamps levels p rest =
      subst (λ (l : ℕ). Rest ws (waving stamp l shown) stamps levels) p rest

  -- no word is left: the last sample is complete
  at-end : (stamp level shown : ℕ) → eqb shown level ≡ false
      → Rest [] (waving stamp level shown) (stamp ∷ []) (level ∷ [])
  unfolding read.completed
  at-end stamp level shown other pre place is =
      record { part = refl; known = refl; timescale = refl; stamped = rw other; leveled = rw other }

  pub samples-read : (stamp last shown : ℕ) (stamps levels : List ℕ) → Above stamp stamps → Legal levels
      → level_of (scl last) (sda last) ≡ last → eqb shown last ≡ false
      → Rest (words_after last stamps levels) (waving stamp last shown)
      (stamp ∷ stamps_of (changes_from last (samples stamps levels)))
      (last ∷ levels_of (changes_from last (samples stamps levels)))
  samples-read stamp last shown [] levels above legal is other = at-end stamp last shown other
  samples-read stamp last shown (next ∷ stamps) [] above legal is other = at-end stamp last shown other
  samples-read stamp last shown (next ∷ stamps) (level ∷ levels) above legal is other =
      go (eqb level last) refl
      (samples-read stamp last shown stamps levels (above-less stamp next stamps above.0 above.1.1) legal.1
      is other)
      (samples-read next level last stamps levels above.1.1 legal.1 legal.0)
    where
      test : (same : Bool) → eqb level last ≡ same
          → beq (scl level) (scl last) && beq (sda level) (sda last) ≡ same
      test same e =
          sym (same-level (scl level) (sda level) (scl last) (sda last)) ∙ ap₂ eqb legal.0 is ∙ e

      -- what of the samples is listed, where this one changes nothing, and where it does
      still : (of : ℕ × ℕ → ℕ) (first : ℕ) → eqb level last ≡ true
          → first ∷ map of (changes_from last (samples stamps levels))
          ≡ first ∷ map of (changes_from last (samples (next ∷ stamps) (level ∷ levels)))
      still of first e = rw (e, eqb-true level last e)

      moved : (of : ℕ × ℕ → ℕ) (first : ℕ) → eqb level last ≡ false
          → first ∷ of (next, level) ∷ map of (changes_from level (samples stamps levels))
          ≡ first ∷ map of (changes_from last (samples (next ∷ stamps) (level ∷ levels)))
      moved of first e = rw e

      no_words : eqb level last ≡ true
          → words_after last stamps levels ≡ sample_words last next level ++ words_after level stamps levels
      no_words e = rw (test true e, eqb-true level last e)

      new-words : eqb level last ≡ false
          → stamp_word next ∷ (change_words (scl last) (scl level) scl_wire
          ++ (change_words (sda last) (sda level) sda_wire ++ words_after level stamps levels))
          ≡ sample_words last next level ++ words_after level stamps levels
      new-words e =
          rw (test false e)
          (ap (λ (l : List Spelt). stamp_word next ∷ l)
          (sym (append_assoc (change_words (scl last) (scl level) scl_wire) (change_words (sda last) (sda level) sda_wire)
          (words_after level stamps levels))))

      go : (same : Bool) → eqb level last ≡ same
          → Rest (words_after last stamps levels) (waving stamp last shown)
          (stamp ∷ stamps_of (changes_from last (samples stamps levels)))
          (last ∷ levels_of (changes_from last (samples stamps levels)))
          → (eqb last level ≡ false → Rest (words_after level stamps levels) (waving next level last)
          (next ∷ stamps_of (changes_from level (samples stamps levels)))
          (level ∷ levels_of (changes_from level (samples stamps levels))))
          → Rest (sample_words last next level ++ words_after level stamps levels) (waving stamp last shown)
          (stamp ∷ stamps_of (changes_from last (samples (next ∷ stamps) (level ∷ levels))))
          (last ∷ levels_of (changes_from last (samples (next ∷ stamps) (level ∷ levels))))
      go true e same_rest new-rest =
          rest-as _ _ _ _ _ _ _ (no_words e) (still (λ s. s.0) stamp e) (still (λ s. s.1) last e) same_rest
      go false e same_rest new-rest =
          let ws = words_after level stamps levels in
          let one = change_words (scl last) (scl level) scl_wire in
          let two = change_words (sda last) (sda level) sda_wire in
          let unlike : eqb last level ≡ false = ne_eqb last level (λ p. eqb-false level last e (sym p)) in
          let changed =
          wave-as (one ++ (two ++ ws)) next _ last last _ _ is
          (scl-change next last (scl last) (scl level) (sda last) (two ++ ws) _ _
          (sda-change next last (sda last) (sda level) (scl level) ws _ _
          (wave-as ws next level _ last _ _ (sym legal.0) (new-rest unlike)))) in
          rest-as _ _ _ _ _ _ _ (new-words e) (moved (λ s. s.0) stamp e) (moved (λ s. s.1) last e)
          (stamp-word stamp last shown next (one ++ (two ++ ws)) _ _ above.0 above.1.0 other changed)

  -- the first stamp of all, and a value for each wire
  first_step : (place stamp : ℕ) (word : Word) → bytes_of text word ≡ 0x23 ∷ decimal_text stamp → stamp ≤ largest_stamp
      → read.step text (reading place started.wave) word ≡ reading word.start (begun stamp 0 0 no_sample)
  unfolding read.step change judge
  first_step place stamp word is small =
      let fits : stamp < 2 ^ 64 = omega arith in
      rw (is, number-back stamp fits, le-ltb largest_stamp stamp small)

  both_words : (stamp : ℕ) (scl sda : Bool) (ws : List Spelt) (stamps levels : List ℕ)
      → Rest ws (waving stamp (level_of scl sda) no_sample) stamps levels
      → Rest (value_word scl scl_wire ∷ value_word sda sda_wire ∷ ws) (begun stamp 0 0 no_sample) stamps levels
  unfolding with_line
  both_words stamp true true ws stamps levels rest =
      scl-word stamp 0 0 no_sample true (value_word true sda_wire ∷ ws) stamps levels
      (sda-word stamp 1 1 no_sample true ws stamps levels rest)
  both_words stamp true false ws stamps levels rest =
      scl-word stamp 0 0 no_sample true (value_word false sda_wire ∷ ws) stamps levels
      (sda-word stamp 1 1 no_sample false ws stamps levels rest)
  both_words stamp false true ws stamps levels rest =
      scl-word stamp 0 0 no_sample false (value_word true sda_wire ∷ ws) stamps levels
      (sda-word stamp 1 0 no_sample true ws stamps levels rest)
  both_words stamp false false ws stamps levels rest =
      scl-word stamp 0 0 no_sample false (value_word false sda_wire ∷ ws) stamps levels
      (sda-word stamp 1 0 no_sample false ws stamps levels rest)

  pub first_read : (stamp level : ℕ) (ws : List Spelt) (stamps levels : List ℕ) → stamp ≤ largest_stamp
      → level_of (scl level) (sda level) ≡ level → Rest ws (waving stamp level no_sample) stamps levels
      → Rest (first_words stamp level ++ ws) started.wave stamps levels
  first_read stamp level ws stamps levels small legal rest pre place is =
      let word = stamp_word stamp in
      let values = value_word (scl level) scl_wire ∷ value_word (sda level) sda_wire ∷ ws in
      let span = spanned (length pre) word.bytes in
      let both =
      both_words stamp (scl level) (sda level) ws stamps levels
      (wave-as ws stamp level _ no_sample stamps levels (sym legal) rest) in
      quiet _ _ span _ _ _
      (first_step place stamp span (here word values pre is) small) refl (onward word values pre is both)
