-- The messages of a request, cut from what all of them send: each is its own bytes, marked by its own parts.
use Prim.Native.Nat.{ℕ, zero, suc, ◌+◌, ◌≤◌, ◌<◌}
use native.Mathlib.Omega.{arith}
use mathlib.Core.Path.{◌≡◌, refl, ap, ap₂, sym, ◌∙◌}
use mathlib.Core.Bool.{false, ◌||◌, false≢true}
use mathlib.Core.List.{List, [], ◌∷◌, ◌++◌, map, zip_with}
use lib.Dec.{ltb}
use lib.ListN.{length, take, drop, replicate, length-append, length-replicate, length-take, length-drop}
use borrow.Author.Tests.{eqb-false, ltb-false, le-ltb}
use Rattle.laws.specs.Everyone.{Everyone, nobody, also}
use Rattle.laws.specs.Search.{any}
use Rattle.laws.proofs.Bools.{neither}
use Rattle.laws.proofs.Lists.{everyone-append, zip_with-length}
use Rattle.arbitration_rules.specs.Outcome.{restarts, sent_at}
use Rattle.arbitration_rules.specs.Reply.{Request, cut, total, parts_of, lengths_of, marks_after, marks_of, all_marks}
use Rattle.arbitration_rules.specs.Reply.{messages_of, is_empty, bad_message, itself}
use Rattle.arbitration_rules.specs.Limits.{max_length}
use Rattle.arbitration_rules.proofs.Follows.{Sent}

-- bytes lent are bytes
abbrev pub Bytes : List ℕ → Type 0
Bytes bytes = Everyone (λ byte. byte < 256) bytes

pub taken : {P : ℕ → Type 0} {l : List ℕ} → Everyone P l → (count : ℕ) → Everyone P (take count l)
taken all zero = nobody
taken nobody (suc count) = nobody
taken (also first rest) (suc count) = also first (taken rest count)

pub left_over : {P : ℕ → Type 0} {l : List ℕ} → Everyone P l → (count : ℕ) → Everyone P (drop count l)
left_over all zero = all
left_over nobody (suc count) = nobody
left_over (also first rest) (suc count) = left_over rest count

-- a message has as many marks as bytes, each 0 or 256
after-length : (parts : List ℕ) → length (marks_after parts) ≡ total parts
after-length [] = refl
after-length (zero ∷ parts) = after-length parts ∙ omega arith
after-length (suc more ∷ parts) =
    ap suc (length-append (replicate more 256) (marks_after parts))
    ∙ omega (arith, length-replicate {A = ℕ} more 256, after-length parts)

pub marks-length : (parts : List ℕ) → length (marks_of parts) ≡ total parts
marks-length [] = refl
marks-length (part ∷ parts) =
    length-append (replicate part 256) (marks_after parts)
    ∙ omega (arith, length-replicate {A = ℕ} part 256, after-length parts)

same-marks : (count : ℕ) → Everyone (λ mark. mark ≤ 256) (replicate count 256)
same-marks zero = nobody
same-marks (suc count) = also {a = 256} (omega arith) (same-marks count)

after_small : (parts : List ℕ) → Everyone (λ mark. mark ≤ 256) (marks_after parts)
after_small [] = nobody
after_small (zero ∷ parts) = after_small parts
after_small (suc more ∷ parts) = also {a = 0} (omega arith) (everyone-append (same-marks more) (after_small parts))

marks-small : (parts : List ℕ) → Everyone (λ mark. mark ≤ 256) (marks_of parts)
marks-small [] = nobody
marks-small (part ∷ parts) = everyone-append (same-marks part) (after_small parts)

-- and so have all messages
pub all-length : (all : List (List ℕ)) → length (all_marks all) ≡ total (map total all)
all-length [] = refl
all-length (parts ∷ more) =
    length-append (marks_of parts) (all_marks more) ∙ omega (arith, marks-length parts, all-length more)

pub all_small : (all : List (List ℕ)) → Everyone (λ mark. mark ≤ 256) (all_marks all)
all_small [] = nobody
all_small (parts ∷ more) = everyone-append (marks-small parts) (all_small more)

-- two lists zipped, cut where the second is
zip-take : (bytes marks more : List ℕ)
    → take (length marks) (zip_with ◌+◌ bytes (marks ++ more)) ≡ zip_with ◌+◌ (take (length marks) bytes) marks
unfolding zip_with
zip-take [] [] more = refl
zip-take [] (mark ∷ marks) more = refl
zip-take (byte ∷ bytes) [] more = refl
zip-take (byte ∷ bytes) (mark ∷ marks) more = ap (λ rest. (byte + mark) ∷ rest) (zip-take bytes marks more)

zip-drop : (bytes marks more : List ℕ)
    → drop (length marks) (zip_with ◌+◌ bytes (marks ++ more)) ≡ zip_with ◌+◌ (drop (length marks) bytes) more
unfolding zip_with
zip-drop [] [] more = refl
zip-drop [] (mark ∷ marks) more = refl
zip-drop (byte ∷ bytes) [] more = refl
zip-drop (byte ∷ bytes) (mark ∷ marks) more = zip-drop bytes marks more

-- the messages, each from its own parts and bytes
abbrev pub pieces : List (List ℕ) → List ℕ → List (List ℕ)
pieces [] bytes = []
pieces (parts ∷ more) bytes =
    zip_with ◌+◌ (take (total parts) bytes) (marks_of parts) ∷ pieces more (drop (total parts) bytes)

cut-pieces : (all : List (List ℕ)) (bytes : List ℕ)
    → cut (map total all) (zip_with ◌+◌ bytes (all_marks all)) ≡ pieces all bytes
cut-pieces [] bytes = refl
cut-pieces (parts ∷ more) bytes =
    ap₂ ◌∷◌
    (ap (λ (count : ℕ). take count (zip_with ◌+◌ bytes (marks_of parts ++ all_marks more))) (sym (marks-length parts))
    ∙ zip-take bytes (marks_of parts) (all_marks more)
    ∙ ap (λ (count : ℕ). zip_with ◌+◌ (take count bytes) (marks_of parts)) (marks-length parts))
    (ap (cut (map total more))
    (ap (λ (count : ℕ). drop count (zip_with ◌+◌ bytes (marks_of parts ++ all_marks more))) (sym (marks-length parts))
    ∙ zip-drop bytes (marks_of parts) (all_marks more)
    ∙ ap (λ (count : ℕ). zip_with ◌+◌ (drop count bytes) (all_marks more)) (marks-length parts))
    ∙ cut-pieces more (drop (total parts) bytes))

pub messages-are : (request : Request) → messages_of request ≡ pieces (parts_of request) request.bytes
messages-are request = cut-pieces (parts_of request) request.bytes

-- what a message sends is a byte, or 256 and a byte
pub zip-sent : {bytes marks : List ℕ} → Bytes bytes → Everyone (λ mark. mark ≤ 256) marks
    → Sent (zip_with ◌+◌ bytes marks)
unfolding zip_with
zip-sent nobody marked = nobody
zip-sent (also small more) nobody = nobody
zip-sent (also {a = byte} small more) (also {a = mark} low marks) =
    let within : byte + mark < 512 = omega arith in
    also within (zip-sent more marks)

-- its first byte has no restart before it
first-marked : (bytes parts : List ℕ) → 0 < length parts → any is_empty parts ≡ false
    → restarts (sent_at 0 (zip_with ◌+◌ bytes (marks_of parts))) ≡ false
unfolding zip_with
first-marked bytes [] some full = absurd (omega arith)
first-marked bytes (zero ∷ parts) some full = absurd (false≢true (sym full))
first-marked [] (suc part ∷ parts) some full = refl
first-marked (byte ∷ bytes) (suc part ∷ parts) some full = le-ltb (byte + 256) 256 (omega arith)

-- a message of parts that are not empty has bytes
total-some : (parts : List ℕ) → 0 < length parts → any is_empty parts ≡ false → 0 < total parts
total-some [] some full = absurd (omega arith)
total-some (zero ∷ parts) some full = absurd (false≢true (sym full))
total-some (suc part ∷ parts) some full = omega arith

-- parts that 13 does not turn down, and bytes for them
pub record Good (parts : List ℕ) : Type 0 where
  pub some : 0 < length parts
  pub full : any is_empty parts ≡ false
  pub short : total parts ≤ max_length

pub piece-some : {parts : List ℕ} → Good parts → 0 < total parts
piece-some {parts} good = total-some parts good.some good.full

pub piece-first : (bytes : List ℕ) {parts : List ℕ} → Good parts
    → restarts (sent_at 0 (zip_with ◌+◌ bytes (marks_of parts))) ≡ false
piece-first bytes {parts} good = first-marked bytes parts good.some good.full

pub piece_sent : {bytes : List ℕ} → Bytes bytes → (parts : List ℕ) → Sent (zip_with ◌+◌ bytes (marks_of parts))
piece_sent small parts = zip-sent small (marks-small parts)

pub piece-length : (bytes parts : List ℕ) → total parts ≤ length bytes
    → length (zip_with ◌+◌ (take (total parts) bytes) (marks_of parts)) ≡ total parts
piece-length bytes parts enough =
    zip_with-length ◌+◌ (take (total parts) bytes) (marks_of parts)
    ∙ omega (arith, length-take (total parts) bytes, marks-length parts)

-- a total in two
pub split-total : (count : ℕ) (parts : List ℕ) → total (take count parts) + total (drop count parts) ≡ total parts
split-total zero parts = omega arith
split-total (suc count) [] = refl
split-total (suc count) (part ∷ parts) = let rest = split-total count parts in omega (arith, rest)

-- the parts that are cut: as many bytes as all of them say, and none is bad
cut-total : (counts parts : List ℕ) → total counts ≡ length parts
    → total (map total (cut counts parts)) ≡ total parts
cut-total [] [] same = refl
cut-total [] (part ∷ parts) same = absurd (omega arith)
cut-total (count ∷ counts) parts same =
    ap (λ (sum : ℕ). total (take count parts) + sum)
    (cut-total counts (drop count parts) (omega (arith, length-drop count parts)))
    ∙ split-total count parts

cut-good : (counts parts : List ℕ) → total counts ≡ length parts
    → any itself (zip_with bad_message counts (cut counts parts)) ≡ false → Everyone Good (cut counts parts)
unfolding zip_with
cut-good [] parts same good = nobody
cut-good (count ∷ counts) parts same good =
    let own = take count parts in
    let two =
    neither (bad_message count own) (any itself (zip_with bad_message counts (cut counts (drop count parts)))) good in
    let three = neither (is_empty count || any is_empty own) (ltb max_length (total own)) two.0 in
    let four = neither (is_empty count) (any is_empty own) three.0 in
    let many : count ≡ 0 → ⊥ = eqb-false count 0 four.0 in
    also {a = own}
    (record {
      some = omega (arith, length-take count parts);
      full = four.1;
      short = ltb-false max_length (total own) three.1;
    })
    (cut-good counts (drop count parts) (omega (arith, length-drop count parts)) two.1)

pub parts-total : (request : Request) → total request.counts ≡ length request.parts
    → total (lengths_of request) ≡ total request.parts
parts-total request same = cut-total request.counts request.parts same

pub parts-good : (request : Request) → total request.counts ≡ length request.parts
    → any itself (zip_with bad_message request.counts (parts_of request)) ≡ false
    → Everyone Good (parts_of request)
parts-good request same good = cut-good request.counts request.parts same good
