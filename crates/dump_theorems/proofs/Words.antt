-- The text of a dump, word by word.
use mathlib.Core.Path.{◌≡◌, refl, sym, ap, ap₂, ◌∙◌}
use mathlib.Core.Bool.{Bool, true, false, cond, ◌&&◌, beq}
use mathlib.Core.List.{List, [], ◌∷◌, ◌++◌, append_assoc}
use Prim.Native.Nat.{ℕ}
use Rattle.levels.specs.Levels.{scl, sda}
use Rattle.text.specs.Output.{decimal_text}
use Rattle.dump.specs.Text.{header, stamp_line, value_line, change_line, first_text, sample_text}
use Rattle.dump.specs.Text.{samples_after, dump_text}
use Rattle.dump_reader.proofs.Spelled.{spelled}
use Rattle.dump_reader.proofs.Header.{header_words}
use Rattle.dump_reader.proofs.Samples.{scl_wire, sda_wire, stamp_word, change_words, sample_words}
use Rattle.dump_reader.proofs.Samples.{first_words, words_after, spelled-append}
use Rattle.dump_reader.proofs.ReadBack.{dump_words}

header-spelled : header ≡ spelled header_words
unfolding header
header-spelled = refl

stamp-spelled : (stamp : ℕ) (rest : List ℕ) → stamp_line stamp ++ rest ≡ (stamp_word stamp).bytes ++ 0x0a ∷ rest
unfolding stamp_line
stamp-spelled stamp rest = append_assoc (0x23 ∷ decimal_text stamp) (0x0a ∷ []) rest

change-spelled : (was high : Bool) (wire : ℕ) → change_line was high wire ≡ spelled (change_words was high wire)
unfolding change_line value_line
change-spelled true true wire = refl
change-spelled true false wire = refl
change-spelled false true wire = refl
change-spelled false false wire = refl

first-spelled : (stamp level : ℕ) → first_text stamp level ≡ spelled (first_words stamp level)
unfolding value_line
first-spelled stamp level =
    append_assoc (stamp_line stamp) (value_line (scl level) scl_wire) (value_line (sda level) sda_wire)
    ∙ stamp-spelled stamp (value_line (scl level) scl_wire ++ value_line (sda level) sda_wire)

sample-spelled : (last stamp level : ℕ) → sample_text last stamp level ≡ spelled (sample_words last stamp level)
unfolding sample_text
sample-spelled last stamp level = go (beq (scl level) (scl last) && beq (sda level) (sda last))
  where
    go : (same : Bool)
        → cond same [] (stamp_line stamp ++ change_line (scl last) (scl level) scl_wire
        ++ change_line (sda last) (sda level) sda_wire)
        ≡ spelled (cond same [] (stamp_word stamp
        ∷ (change_words (scl last) (scl level) scl_wire ++ change_words (sda last) (sda level) sda_wire)))
    go true = refl
    go false =
        append_assoc (stamp_line stamp) (change_line (scl last) (scl level) scl_wire)
        (change_line (sda last) (sda level) sda_wire)
        ∙ stamp-spelled stamp (change_line (scl last) (scl level) scl_wire ++ change_line (sda last) (sda level) sda_wire)
        ∙ ap (λ (l : List ℕ). (stamp_word stamp).bytes ++ 0x0a ∷ l)
        (ap₂ ◌++◌ (change-spelled (scl last) (scl level) scl_wire) (change-spelled (sda last) (sda level) sda_wire)
        ∙ sym (spelled-append (change_words (scl last) (scl level) scl_wire)
        (change_words (sda last) (sda level) sda_wire)))

after-spelled : (last : ℕ) (stamps levels : List ℕ)
    → samples_after last stamps levels ≡ spelled (words_after last stamps levels)
after-spelled last [] levels = refl
after-spelled last (stamp ∷ stamps) [] = refl
after-spelled last (stamp ∷ stamps) (level ∷ levels) =
    ap₂ ◌++◌ (sample-spelled last stamp level) (after-spelled level stamps levels)
    ∙ sym (spelled-append (sample_words last stamp level) (words_after level stamps levels))

pub dump-spelled : (stamp level : ℕ) (stamps levels : List ℕ)
    → dump_text (stamp ∷ stamps) (level ∷ levels) ≡ spelled (dump_words stamp level stamps levels)
dump-spelled stamp level stamps levels =
    ap₂ ◌++◌ header-spelled
    (ap₂ ◌++◌ (first-spelled stamp level) (after-spelled level stamps levels)
    ∙ sym (spelled-append (first_words stamp level) (words_after level stamps levels)))
    ∙ sym (spelled-append header_words (first_words stamp level ++ words_after level stamps levels))
