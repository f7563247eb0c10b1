-- The request of a round: the messages that wait, lent anew, are its messages, and it has the form of one that 12 to
-- 15 pass.
use Prim.Native.Nat.{ℕ, zero, suc, ◌+◌, ◌≤◌}
use native.Mathlib.Omega.{arith}
use mathlib.Core.Path.{◌≡◌, refl, sym, ap, ap₂, ◌∙◌}
use mathlib.Core.Bool.{false}
use mathlib.Core.List.{List, [], ◌∷◌, map, zip_with}
use lib.ListN.{length, take, drop, replicate, length-append, length-drop, length-map}
use lib.Seq.{length-take-le}
use borrow.Author.Tests.{ne_eqb, le-ltb}
use Rattle.laws.specs.Everyone.{Everyone, nobody, also}
use Rattle.laws.specs.Search.{any}
use Rattle.arbitration_rules.specs.Limits.{max_length}
use Rattle.arbitration_rules.specs.Reply.{Request, asked, cut, joined, total, parts_of, lengths_of, messages_of}
use Rattle.arbitration_rules.specs.Reply.{marks_of, bad_message, itself}
use Rattle.arbitration_rules.proofs.Cut.{cut-joined}
use Rattle.arbitration_rules.proofs.Pieces.{pieces, messages-are, Good}
use Rattle.arbitration_messages.proofs.Sums.{total-append}
use Rattle.night_rules.specs.Night.{waiting}
use Rattle.night.specs.Waiting.{waiting_in}

-- lists that were joined, summed
pub joined_length : (lists : List (List ℕ)) → total (map length lists) ≡ length (joined lists)
joined_length [] = refl
joined_length (list ∷ lists) = omega (arith, length-append list (joined lists), joined_length lists)

pub joined-total : (lists : List (List ℕ)) → total (joined lists) ≡ total (map total lists)
joined-total [] = refl
joined-total (list ∷ lists) = omega (arith, total-append list (joined lists), joined-total lists)

-- one number of each that waits
pub waiting-ones : (rounds list : List ℕ) (lists : List (List ℕ)) (size : List ℕ → ℕ) → map size lists ≡ list
    → waiting_in rounds (replicate (length list) 1) list ≡ map size (waiting rounds lists)
waiting-ones [] list lists size same = refl
waiting-ones (round ∷ rounds) [] [] size same = refl
waiting-ones (round ∷ rounds) [] (own ∷ lists) size same =
    let never : ◌≡◌ {A = ℕ} 0 (suc (length (map size lists))) = ap length (sym same) in
    absurd (omega arith)
waiting-ones (round ∷ rounds) (a ∷ list) [] size same =
    let never : ◌≡◌ {A = ℕ} 0 (suc (length list)) = ap length same in
    absurd (omega arith)
waiting-ones (zero ∷ rounds) (a ∷ list) (own ∷ lists) size same =
    ap₂ ◌∷◌ (sym (ap (λ (l : List ℕ). first l) same)) (waiting-ones rounds list lists size (ap (drop 1) same))
  where
    first : List ℕ → ℕ
    first [] = 0
    first (b ∷ more) = b
waiting-ones (suc round ∷ rounds) (a ∷ list) (own ∷ lists) size same =
    waiting-ones rounds list lists size (ap (drop 1) same)

-- what is cut is as long as it is said to be
pub cut-lengths : (counts list : List ℕ) → total counts ≤ length list → map length (cut counts list) ≡ counts
cut-lengths [] list enough = refl
cut-lengths (count ∷ counts) list enough =
    ap₂ ◌∷◌ (length-take-le count list (omega arith))
    (cut-lengths counts (drop count list) (omega (arith, length-drop count list)))

-- two lists of lists with one size each keep it among those that wait
pub waiting-sizes : (size other : List ℕ → ℕ) (rounds : List ℕ) (lists others : List (List ℕ))
    → map size lists ≡ map other others → map size (waiting rounds lists) ≡ map other (waiting rounds others)
waiting-sizes size other [] lists others same = refl
waiting-sizes size other (round ∷ rounds) [] [] same = refl
waiting-sizes size other (round ∷ rounds) [] (b ∷ others) same =
    let never : ◌≡◌ {A = ℕ} 0 (suc (length (map other others))) = ap length same in
    absurd (omega arith)
waiting-sizes size other (round ∷ rounds) (a ∷ lists) [] same =
    let never : ◌≡◌ {A = ℕ} 0 (suc (length (map size lists))) = ap length (sym same) in
    absurd (omega arith)
waiting-sizes size other (zero ∷ rounds) (a ∷ lists) (b ∷ others) same =
    ap₂ ◌∷◌ (ap (λ (l : List ℕ). first l) same) (waiting-sizes size other rounds lists others (ap (drop 1) same))
  where
    first : List ℕ → ℕ
    first [] = 0
    first (c ∷ more) = c
waiting-sizes size other (suc round ∷ rounds) (a ∷ lists) (b ∷ others) same =
    waiting-sizes size other rounds lists others (ap (drop 1) same)

-- a message from its own bytes and parts
abbrev marked : List ℕ → List ℕ → List ℕ
marked bytes parts = zip_with ◌+◌ bytes (marks_of parts)

pieces-cut : (all : List (List ℕ)) (bytes : List ℕ)
    → pieces all bytes ≡ zip_with marked (cut (map total all) bytes) all
unfolding zip_with
pieces-cut [] bytes = refl
pieces-cut (parts ∷ all) bytes =
    ap (λ (l : List (List ℕ)). marked (take (total parts) bytes) parts ∷ l) (pieces-cut all (drop (total parts) bytes))

waiting-zip : (rounds : List ℕ) (lists all : List (List ℕ)) → length lists ≡ length all
    → zip_with marked (waiting rounds lists) (waiting rounds all) ≡ waiting rounds (zip_with marked lists all)
unfolding zip_with
waiting-zip [] lists all same = refl
waiting-zip (round ∷ rounds) [] [] same = refl
waiting-zip (round ∷ rounds) [] (b ∷ all) same = absurd (omega arith)
waiting-zip (round ∷ rounds) (a ∷ lists) [] same = absurd (omega arith)
waiting-zip (zero ∷ rounds) (a ∷ lists) (b ∷ all) same =
    ap (λ (l : List (List ℕ)). marked a b ∷ l) (waiting-zip rounds lists all (omega arith))
waiting-zip (suc round ∷ rounds) (a ∷ lists) (b ∷ all) same = waiting-zip rounds lists all (omega arith)

-- no message of good parts is bad
pub none-bad : {all : List (List ℕ)} → Everyone Good all
    → any itself (zip_with bad_message (map length all) all) ≡ false
unfolding zip_with
none-bad nobody = refl
none-bad (also {a = parts} good more) =
    rw (
      ne_eqb (length parts) 0 (λ e. omega (arith, good.some)),
      good.full,
      le-ltb max_length (total parts) good.short,
    ) (none-bad more)

-- the request of the round
module _ (rounds : List ℕ) (request : Request) (acknowledges : List ℕ) where
  abbrev pub ones : List ℕ
  ones = replicate (length request.counts) 1

  abbrev pub again : Request
  again =
      asked (waiting_in rounds (lengths_of request) request.bytes)
      (waiting_in rounds request.counts request.parts) (waiting_in rounds ones request.counts) acknowledges

  abbrev pub owned : List (List ℕ)
  owned = waiting rounds (parts_of request)

  module _ (counted : total request.counts ≤ length request.parts)
      (summed : total (lengths_of request) ≤ length request.bytes) where
    pub again-counts : again.counts ≡ map length owned
    again-counts =
        waiting-ones rounds request.counts (parts_of request) length
        (cut-lengths request.counts request.parts counted)

    pub again-parts : parts_of again ≡ owned
    again-parts = ap (λ (l : List ℕ). cut l again.parts) again-counts ∙ cut-joined owned

    -- the bytes of those that wait
    abbrev bodies : List (List ℕ)
    bodies = waiting rounds (cut (lengths_of request) request.bytes)

    pub bodies-lengths : map length bodies ≡ map total owned
    bodies-lengths =
        waiting-sizes length total rounds (cut (lengths_of request) request.bytes) (parts_of request)
        (cut-lengths (lengths_of request) request.bytes summed)

    -- the messages of the round are those that wait
    pub again-messages : messages_of again ≡ waiting rounds (messages_of request)
    again-messages =
        messages-are again
        ∙ ap (λ (l : List (List ℕ)). pieces l again.bytes) again-parts
        ∙ pieces-cut owned again.bytes
        ∙ ap (λ (l : List (List ℕ)). zip_with marked l owned)
        (ap (λ (l : List ℕ). cut l again.bytes) (sym bodies-lengths) ∙ cut-joined bodies)
        ∙ waiting-zip rounds (cut (lengths_of request) request.bytes) (parts_of request) alike
        ∙ ap (waiting rounds) (sym (pieces-cut (parts_of request) request.bytes) ∙ sym (messages-are request))
      where
        alike : length (cut (lengths_of request) request.bytes) ≡ length (parts_of request)
        alike =
            sym (length-map (cut (lengths_of request) request.bytes) length)
            ∙ ap length (cut-lengths (lengths_of request) request.bytes summed)
            ∙ length-map (parts_of request) total
