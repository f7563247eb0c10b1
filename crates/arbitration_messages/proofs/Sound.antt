-- A request that 12 and 13 pass: its parts are not empty, its lengths within the limit, and what is gathered is what
-- the messages send.
use Prim.Native.Nat.{ℕ, zero, suc, ◌+◌, ◌-◌, ◌*◌, ◌<◌, ◌≤◌}
use mathlib.Core.Path.{◌≡◌, refl, sym, ap, ap₂, ◌∙◌}
use mathlib.Core.Bool.{Bool, false, ◌||◌, false≢true}
use mathlib.Core.List.{List, [], ◌∷◌, ◌++◌, map, zip_with, append_assoc}
use native.Mathlib.Omega.{arith}
use lib.Dec.{ltb}
use borrow.Author.Tests.{eqb-false, ltb-false}
use lib.ListN.{length, get_or, take, drop, set, replicate, length-drop, take-append-drop}
use lib.Seq.{take_at, drop_at, length-take-le}
use Rattle.laws.specs.Search.{any}
use Rattle.laws.specs.Everyone.{Everyone, nobody, also}
use Rattle.laws.proofs.Bools.{neither}
use Rattle.laws.proofs.Lists.{zip_with-length}
use Rattle.arbitration_rules.specs.Limits.{max_length}
use Rattle.arbitration_rules.specs.Reply.{cut, total, is_empty, itself, bad_message, marks_after, marks_of, all_marks}
use Rattle.arbitration_rules.proofs.Pieces.{marks-length, all-length, split-total}
use Rattle.arbitration_messages.specs.Lengths.{limited}
use Rattle.arbitration_messages.specs.Marks.{max_sent, started, joined_of}
use Rattle.arbitration_messages.proofs.Limited.{limited-all}

-- lists joined
any_append : {A : Type 0} (test : A → Bool) (list more : List A) → any test list ≡ false → any test more ≡ false
    → any test (list ++ more) ≡ false
any_append test [] more one two = two
any_append test (a ∷ list) more one two =
    let both = neither (test a) (any test list) one in
    rw both.0 (any_append test list more both.1 two)

after-append : (parts more : List ℕ) → marks_after (parts ++ more) ≡ marks_after parts ++ marks_after more
after-append [] more = refl
after-append (zero ∷ parts) more = after-append parts more
after-append (suc n ∷ parts) more =
    ap (λ (l : List ℕ). 0 ∷ replicate n 256 ++ l) (after-append parts more)
    ∙ sym (append_assoc (0 ∷ replicate n 256) (marks_after parts) (marks_after more))

-- a message's first part begins with no restart
first_marks : (parts rest : List ℕ) → 0 < length parts → any is_empty parts ≡ false
    → set (marks_after parts ++ rest) 0 256 ≡ marks_of parts ++ rest
first_marks [] rest some full = absurd (omega arith)
first_marks (zero ∷ parts) rest some full = absurd (false≢true (sym full))
first_marks (suc n ∷ parts) rest some full = refl

-- marks are at most 256
abbrev pub Small : ℕ → Type 0
Small mark = mark ≤ 256

pub everyone-same : (P : ℕ → Type 0) (a count : ℕ) → P a → Everyone P (replicate count a)
everyone-same P a zero p = nobody
everyone-same P a (suc count) p = also p (everyone-same P a count p)

-- what holds of everyone holds at an index, and of what is past the end
pub everyone-at : {P : ℕ → Type 0} {list : List ℕ} → P 0 → Everyone P list → (i : ℕ) → P (get_or list i 0)
everyone-at empty nobody i = empty
everyone-at empty (also p more) zero = p
everyone-at empty (also p more) (suc i) = everyone-at empty more i

-- counts and parts of messages that 13 passes
pub data Sound : List ℕ → List ℕ → Type 0 where
  no_more : Sound [] []
  message : {count : ℕ} {counts parts : List ℕ} → 0 < count → count ≤ length parts
      → any is_empty (take count parts) ≡ false → total (take count parts) ≤ max_length
      → Sound counts (drop count parts) → Sound (count ∷ counts) parts

pub sound : (counts parts : List ℕ) → any itself (zip_with bad_message counts (cut counts parts)) ≡ false
    → total counts ≡ length parts → Sound counts parts
unfolding zip_with
sound [] [] good sums = no_more
sound [] (part ∷ parts) good sums = absurd (omega arith)
sound (count ∷ counts) parts good sums =
    let own = take count parts in
    let others = zip_with bad_message counts (cut counts (drop count parts)) in
    let two = neither (bad_message count own) (any itself others) good in
    let shape = neither (is_empty count || any is_empty own) (ltb max_length (total own)) two.0 in
    let full = neither (is_empty count) (any is_empty own) shape.0 in
    let unequal : count ≡ 0 → ⊥ = eqb-false count 0 full.0 in
    let some : 0 < count = omega arith in
    let enough : count ≤ length parts = omega arith in
    let rest : total counts ≡ length (drop count parts) = omega (arith, length-drop count parts) in
    message some enough full.1 (ltb-false max_length (total own) shape.1)
    (sound counts (drop count parts) two.1 rest)

pub sound-full : {counts parts : List ℕ} → Sound counts parts → any is_empty parts ≡ false
sound-full no_more = refl
sound-full (message {count} {counts} {parts} some enough full short more) =
    rw (← take-append-drop count parts)
    (any_append is_empty (take count parts) (drop count parts) full (sound-full more))

pub sound-lengths : {counts parts : List ℕ} → Sound counts parts
    → map limited (cut counts parts) ≡ map total (cut counts parts)
sound-lengths no_more = refl
sound-lengths (message {count} {counts} {parts} some enough full short more) =
    ap₂ ◌∷◌ (sym (limited-all (take count parts) (sym full) short)) (sound-lengths more)

abbrev pub Short : ℕ → Type 0
Short length = length ≤ max_length

pub sound-short : {counts parts : List ℕ} → Sound counts parts → Everyone Short (map total (cut counts parts))
sound-short no_more = nobody
sound-short (message some enough full short more) = also short (sound-short more)

pub sound-total : {counts parts : List ℕ} → Sound counts parts → total (map total (cut counts parts)) ≡ total parts
sound-total no_more = refl
sound-total (message {count} {counts} {parts} some enough full short more) =
    omega (arith, split-total count parts, sound-total more)

pub sound-bound : {counts parts : List ℕ} → Sound counts parts → total parts ≤ max_length * length counts
sound-bound no_more = omega arith
sound-bound (message {count} {counts} {parts} some enough full short more) =
    omega (arith, split-total count parts, sound-bound more, short)

-- the marks of the messages, from those of the parts
pub sound-marks : {counts parts : List ℕ} (rest : List ℕ) → Sound counts parts
    → started (map total (cut counts parts)) (marks_after parts ++ rest) ≡ all_marks (cut counts parts) ++ rest
sound-marks rest no_more = refl
sound-marks rest (message {count} {counts} {parts} some enough full short more) =
    let own = take count parts in
    let others = drop count parts in
    let size = marks-length own in
    let there : 0 < length own = omega (arith, length-take-le count parts enough) in
    let all : set (marks_after parts ++ rest) 0 256 ≡ marks_of own ++ (marks_after others ++ rest) =
    ap (λ (l : List ℕ). set (marks_after l ++ rest) 0 256) (sym (take-append-drop count parts))
    ∙ ap (λ (l : List ℕ). set (l ++ rest) 0 256) (after-append own others)
    ∙ ap (λ (l : List ℕ). set l 0 256) (append_assoc (marks_after own) (marks_after others) rest)
    ∙ first_marks own (marks_after others ++ rest) there full in
    ap (λ (l : List ℕ). take (total own) l ++ started (map total (cut counts others)) (drop (total own) l)) all
    ∙ ap₂ (λ (l k : List ℕ). l ++ started (map total (cut counts others)) k)
    (take_at (marks_of own) (marks_after others ++ rest) (total own) size)
    (drop_at (marks_of own) (marks_after others ++ rest) (total own) size)
    ∙ ap (λ (l : List ℕ). marks_of own ++ l) (sound-marks rest more)
    ∙ sym (append_assoc (marks_of own) (all_marks (cut counts others)) rest)

-- and what the messages send, as many as there are bytes
module _ (bytes counts parts : List ℕ) (all : Sound counts parts) (sums : total parts ≡ length bytes) where
  abbrev marks : List ℕ
  marks = all_marks (cut counts parts)

  long : length marks ≡ length bytes
  long = all-length (cut counts parts) ∙ sound-total all ∙ sums

  pub sent-length : length (zip_with ◌+◌ bytes marks) ≡ length bytes
  sent-length = omega (arith, zip_with-length ◌+◌ bytes marks, long)

  pub sent-joined : joined_of bytes (marks ++ replicate (max_sent - total parts) 256)
      ≡ zip_with ◌+◌ bytes marks ++ replicate (max_sent - length (zip_with ◌+◌ bytes marks)) 256
  sent-joined =
      let pad : List ℕ = replicate (max_sent - total parts) 256 in
      ap₂ (λ (l k : List ℕ). zip_with ◌+◌ bytes l ++ k) (take_at marks pad (length bytes) long)
      (drop_at marks pad (length bytes) long)
      ∙ ap (λ (k : ℕ). zip_with ◌+◌ bytes marks ++ replicate (max_sent - k) 256) (sums ∙ sym sent-length)
