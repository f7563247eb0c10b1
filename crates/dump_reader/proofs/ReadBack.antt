-- A dump of two wires reads back as its samples.
use mathlib.Core.Path.{◌≡◌, refl, sym, ap, ap₂, ◌∙◌}
use mathlib.Core.Bool.{Bool, true, false, cond, ◌&&◌, ◌||◌, beq}
use mathlib.Core.List.{List, [], ◌∷◌, ◌++◌, append_assoc}
use Prim.Native.Nat.{ℕ, zero, suc, ◌-◌, ◌/◌, ◌%◌, ◌≤◌, ◌<◌}
use native.Mathlib.Omega.{arith}
use lib.Dec.{eqb, ltb}
use lib.ListN.{length, get_or, length-append}
use lib.Seq.{get_or_at}
use borrow.Author.Tests.{eq-eqb, eqb-true, le-ltb}
use Rattle.std.specs.Prelude.{Ok}
use Rattle.laws.specs.Search.{all}
use Rattle.laws.proofs.Bools.{both}
use Rattle.laws.proofs.Refusals.{Passed, passed-both, ok_passed}
use Rattle.laws.proofs.Search.{all-below}
use Rattle.levels.specs.Levels.{scl, sda, level_of}
use Rattle.trace.specs.Limits.{largest_stamp, max_samples}
use Rattle.trace.specs.Changes.{changed_stamps, changed_levels}
use Rattle.text.specs.Output.{digit_byte, decimal_up_to}
use Rattle.dump_reader.specs.declared.words.Run.TheVariants.{Word as InWord}
use Rattle.dump_reader.specs.declared.reader.Reader.{Reader}
use Rattle.dump_reader.specs.Words.{belongs, words}
use Rattle.dump_reader.specs.Reader.{started, no_sample}
use Rattle.dump_reader.specs.Reading as read
use Rattle.dump_reader.specs.DumpRead.{longest_text, closed, text_checks, read_checks, samples_in_unit, held, dump_read}
use Rattle.dump_reader.proofs.Spelled.{Spelt, spelled, proper, placed, words-spelled, up_to, same_text}
use Rattle.dump_reader.proofs.Reply.{text_passed, others}
use Rattle.dump_reader.proofs.Header.{header_words, header-proper, after_header, header_read, header-listed}
use Rattle.dump_reader.proofs.Samples.{scl_wire, sda_wire, stamp_word, value_word, change_words, sample_words}
use Rattle.dump_reader.proofs.Samples.{first_words, words_after, spelled-append}
use Rattle.dump_reader.proofs.Samples.{Above, Legal, Reads, samples-read, first_read}

-- the words of a dump
abbrev pub dump_words : ℕ → ℕ → List ℕ → List ℕ → List Spelt
dump_words stamp level stamps levels = header_words ++ (first_words stamp level ++ words_after level stamps levels)

all_append : {A : Type 0} (test : A → Bool) (one other : List A) → all test one ≡ true → all test other ≡ true
    → all test (one ++ other) ≡ true
all_append test [] other first second = second
all_append test (a ∷ one) other first second =
    let two = both (test a) (all test one) first in
    rw two.0 (all_append test one other two.1 second)

-- no byte of a number parts words
digit-inside : (d : ℕ) → d < 10 → belongs InWord (digit_byte d) ≡ true
unfolding digit_byte
digit-inside d small = all-below (λ n. belongs InWord (digit_byte n)) 10 refl d small

number-inside : (most n : ℕ) → all (belongs InWord) (decimal_up_to most n) ≡ true
unfolding decimal_up_to
number-inside zero n = refl
number-inside (suc most) n = go (ltb n 10) (number-inside most (n / 10))
  where
    last : all (belongs InWord) (digit_byte (n % 10) ∷ []) ≡ true
    last = let small : n % 10 < 10 = omega arith in rw (digit-inside (n % 10) small)

    go : (few : Bool) → all (belongs InWord) (decimal_up_to most (n / 10)) ≡ true
        → all (belongs InWord) (cond few [] (decimal_up_to most (n / 10)) ++ (digit_byte (n % 10) ∷ [])) ≡ true
    go true front = last
    go false front = all_append (belongs InWord) (decimal_up_to most (n / 10)) (digit_byte (n % 10) ∷ []) front last

stamp-proper : (stamp : ℕ) → proper (stamp_word stamp) ≡ true
stamp-proper stamp = rw (number-inside (suc stamp) stamp)

scl-proper : (high : Bool) → proper (value_word high scl_wire) ≡ true
scl-proper true = refl
scl-proper false = refl

sda-proper : (high : Bool) → proper (value_word high sda_wire) ≡ true
sda-proper true = refl
sda-proper false = refl

first-proper : (stamp level : ℕ) → all proper (first_words stamp level) ≡ true
first-proper stamp level = rw (stamp-proper stamp, scl-proper (scl level), sda-proper (sda level))

scl-changes : (was high : Bool) → all proper (change_words was high scl_wire) ≡ true
scl-changes true true = refl
scl-changes true false = refl
scl-changes false true = refl
scl-changes false false = refl

sda-changes : (was high : Bool) → all proper (change_words was high sda_wire) ≡ true
sda-changes true true = refl
sda-changes true false = refl
sda-changes false true = refl
sda-changes false false = refl

sample-proper : (last stamp level : ℕ) → all proper (sample_words last stamp level) ≡ true
sample-proper last stamp level = go (beq (scl level) (scl last) && beq (sda level) (sda last))
  where
    go : (same : Bool)
        → all proper (cond same [] (stamp_word stamp
        ∷ (change_words (scl last) (scl level) scl_wire ++ change_words (sda last) (sda level) sda_wire))) ≡ true
    go true = refl
    go false =
        rw (stamp-proper stamp)
        (all_append proper (change_words (scl last) (scl level) scl_wire) (change_words (sda last) (sda level) sda_wire)
        (scl-changes (scl last) (scl level)) (sda-changes (sda last) (sda level)))

after-proper : (last : ℕ) (stamps levels : List ℕ) → all proper (words_after last stamps levels) ≡ true
after-proper last [] levels = refl
after-proper last (stamp ∷ stamps) [] = refl
after-proper last (stamp ∷ stamps) (level ∷ levels) =
    all_append proper (sample_words last stamp level) (words_after level stamps levels) (sample-proper last stamp level)
    (after-proper level stamps levels)

dump-proper : (stamp level : ℕ) (stamps levels : List ℕ) → all proper (dump_words stamp level stamps levels) ≡ true
dump-proper stamp level stamps levels =
    all_append proper header_words (first_words stamp level ++ words_after level stamps levels) header-proper
    (all_append proper (first_words stamp level) (words_after level stamps levels) (first-proper stamp level)
    (after-proper level stamps levels))

-- the words of the samples each end a line
abbrev ends-line : Spelt → Bool
ends-line word = eqb word.parted 0x0a

change-lines : (was high : Bool) (wire : ℕ) → all ends-line (change_words was high wire) ≡ true
change-lines true true wire = refl
change-lines true false wire = refl
change-lines false true wire = refl
change-lines false false wire = refl

sample-lines : (last stamp level : ℕ) → all ends-line (sample_words last stamp level) ≡ true
sample-lines last stamp level = go (beq (scl level) (scl last) && beq (sda level) (sda last))
  where
    go : (same : Bool)
        → all ends-line (cond same [] (stamp_word stamp
        ∷ (change_words (scl last) (scl level) scl_wire ++ change_words (sda last) (sda level) sda_wire))) ≡ true
    go true = refl
    go false =
        all_append ends-line (change_words (scl last) (scl level) scl_wire)
        (change_words (sda last) (sda level) sda_wire) (change-lines (scl last) (scl level) scl_wire)
        (change-lines (sda last) (sda level) sda_wire)

after-lines : (last : ℕ) (stamps levels : List ℕ) → all ends-line (words_after last stamps levels) ≡ true
after-lines last [] levels = refl
after-lines last (stamp ∷ stamps) [] = refl
after-lines last (stamp ∷ stamps) (level ∷ levels) =
    all_append ends-line (sample_words last stamp level) (words_after level stamps levels) (sample-lines last stamp level)
    (after-lines level stamps levels)

-- a text that ends with such a word ends with a newline
last_byte : (pre : List ℕ) (word : Spelt) (ws : List Spelt) → all ends-line (word ∷ ws) ≡ true
    → get_or (pre ++ spelled (word ∷ ws)) (length (pre ++ spelled (word ∷ ws)) - 1) 0 ≡ 0x0a
last_byte pre word [] lines =
    let line = eqb-true word.parted 0x0a (both (ends-line word) true lines).0 in
    let long : length (pre ++ word.bytes) ≡ length ((pre ++ word.bytes) ++ word.parted ∷ []) - 1 =
    rw (length-append (pre ++ word.bytes) (word.parted ∷ [])) (omega arith) in
    rw (← append_assoc pre word.bytes (word.parted ∷ []))
    (get_or_at (pre ++ word.bytes) word.parted [] 0 _ long ∙ line)
last_byte pre word (next ∷ ws) lines =
    let two = both (ends-line word) (all ends-line (next ∷ ws)) lines in
    rw (← same_text pre word (spelled (next ∷ ws))) (last_byte (up_to pre word) next ws two.1)

closed-by : (text : List ℕ) → get_or text (length text - 1) 0 ≡ 0x0a → closed text ≡ true
closed-by text is = go (eqb (length text) 0) (eq-eqb (get_or text (length text - 1) 0) 0x0a is)
  where
    go : (none : Bool) → eqb (get_or text (length text - 1) 0) 0x0a ≡ true
        → cond none true (eqb (get_or text (length text - 1) 0) 0x0a) ≡ true
    go true line = refl
    go false line = line

-- before the first sample no level is shown
no-level : (one other : Bool) → eqb no_sample (level_of one other) ≡ false
no-level true true = refl
no-level true false = refl
no-level false true = refl
no-level false false = refl

module _
    (stamp level : ℕ)
    (stamps levels : List ℕ)
    (small : stamp ≤ largest_stamp)
    (above : Above stamp stamps)
    (legal : Legal (level ∷ levels))
  where
    abbrev pub text : List ℕ
    text = spelled (dump_words stamp level stamps levels)

    abbrev ws : List Spelt
    ws = first_words stamp level ++ words_after level stamps levels

    -- the samples but for those that change nothing
    abbrev stamps_back : List ℕ
    stamps_back = changed_stamps (stamp ∷ stamps) (level ∷ levels)

    abbrev levels_back : List ℕ
    levels_back = changed_levels (stamp ∷ stamps) (level ∷ levels)

    after-header : Reads text after_header (placed 127 ws) stamps_back levels_back
    after-header =
        let unshown : eqb no_sample level ≡ false =
        ap (eqb no_sample) (sym legal.0) ∙ no-level (scl level) (sda level) in
        first_read text refl refl stamp level (words_after level stamps levels) _ _ small legal.0
        (samples-read text refl refl stamp level no_sample stamps levels above legal.1 legal.0 unshown)
        (spelled header_words) 122 (spelled-append header_words ws)

    all_words : words text ≡ placed 0 (header_words ++ ws)
    all_words = words-spelled (dump_words stamp level stamps levels) (dump-proper stamp level stamps levels)

    last : read.final text ≡ read.after text after_header (placed 127 ws)
    last = ap (read.after text started) all_words ∙ header_read ws

    pub read-timescale : (read.final text).timescale ≡ 100000000
    read-timescale = ap (λ (r : Reader). r.timescale) last ∙ after-header.timescale

    pub read-stamps : read.stamps_in text ≡ stamps_back
    read-stamps =
        ap (read.listed read.stamp_of text started) all_words ∙ header-listed read.stamp_of ws ∙ after-header.stamped

    pub read-levels : read.levels_in text ≡ levels_back
    read-levels =
        ap (read.listed read.level_of text started) all_words ∙ header-listed read.level_of ws ∙ after-header.leveled

    closed-text : closed text ≡ true
    closed-text =
        let values = value_word (scl level) scl_wire ∷ value_word (sda level) sda_wire ∷ [] in
        closed-by text
        (rw (spelled-append header_words ws)
        (last_byte (spelled header_words) (stamp_word stamp) (values ++ words_after level stamps levels)
        (after-lines level stamps levels)))

    unrefused : Passed (text_checks text (read.final text))
    unrefused =
        text_passed text (read.final text) (ap (λ (r : Reader). r.part) last ∙ after-header.part) closed-text
        (ap (λ (r : Reader). r.wave.known) last ∙ after-header.known)

    -- what is read of a dump within the limits, into slices with room for the samples
    pub read_back : (room room-too : ℕ) → length text ≤ longest_text → length stamps_back ≤ max_samples
        → length stamps_back ≤ room → length stamps_back ≤ room-too
        → dump_read text room room-too ≡ Ok (samples_in_unit (length stamps_back) 100000000)
    unfolding dump_read
    read_back room room-too fits few enough enough-too =
        let count : length (read.stamps_in text) ≡ length stamps_back = ap length read-stamps in
        let short : ltb room (length (read.stamps_in text)) || ltb room-too (length (read.stamps_in text)) ≡ false =
        rw (
          le-ltb room (length (read.stamps_in text)) (rw count enough),
          le-ltb room-too (length (read.stamps_in text)) (rw count enough-too),
        ) in
        let rest : Passed (others text room room-too) =
        (le-ltb max_samples (length (read.stamps_in text)) (rw count few), (short, tt)) in
        ok_passed (read_checks text room room-too) (held text) (
          le-ltb longest_text (length text) fits,
          passed-both (text_checks text (read.final text)) (others text room room-too) unrefused rest,
        )
        ∙ ap₂ (λ (n t : ℕ). Ok (samples_in_unit n t)) count read-timescale
