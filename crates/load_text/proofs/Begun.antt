-- The parts of a message, byte by byte, and those of each board.
use mathlib.Core.Path.{◌≡◌, refl, sym, ap, ◌∙◌}
use mathlib.Core.Bool.{Bool, true, false, false≢true, ◌||◌}
use mathlib.Core.List.{List, [], ◌∷◌, ◌++◌, map}
use Prim.Native.Nat.{ℕ, zero, suc, ◌+◌, ◌≤◌, ◌<◌}
use native.Mathlib.Numerals.{add-one}
use native.Mathlib.Omega.{arith}
use lib.Dec.{eqb}
use borrow.Author.Tests.{ne_eqb}
use lib.ListN.{length, get_or, take, drop, replicate, length-append}
use lib.Seq.{take-suc, take_all}
use Rattle.text.specs.Output.{Put}
use Rattle.text.proofs.Putting.{put_then, put_as}
use Rattle.arbitration_rules.specs.Limits.{max_masters, max_length}
use Rattle.load_text.specs.Messages.{messages_in, unless, part_lengths, rows_in, parts_in, part_counts}

parts-append : (s t : List ℕ) → part_lengths (s ++ t) ≡ part_lengths s ++ part_lengths t
parts-append [] t = refl
parts-append (zero ∷ s) t = parts-append s t
parts-append (suc more ∷ s) t = ap (λ (l : List ℕ). suc more ∷ l) (parts-append s t)

pub parts-few : (s : List ℕ) → length (part_lengths s) ≤ length s
parts-few [] = omega arith
parts-few (zero ∷ s) = omega (arith, parts-few s)
parts-few (suc more ∷ s) = omega (arith, parts-few s)

pub part-begins : (b : ℕ) → eqb b 0 ≡ false → 1 ≡ length (part_lengths (b ∷ []))
part-begins zero is = absurd (false≢true (sym is))
part-begins (suc b) is = refl

parts-front : (row : List ℕ) (i : ℕ) → i < length row
    → part_lengths (take (i + 1) row) ≡ part_lengths (take i row) ++ part_lengths (get_or row i 0 ∷ [])
parts-front row i less =
    rw add-one (ap part_lengths (take-suc row i 0 less) ∙ parts-append (take i row) (get_or row i 0 ∷ []))

-- the parts that begin in the first bytes have been counted
pub record Counted (row : List ℕ) (i count : ℕ) : Type 0 where
  pub within : i ≤ length row
  pub counted : count ≡ length (part_lengths (take i row))
  pub few : count ≤ i

pub counted-more : (row : List ℕ) (i : ℕ) {count more : ℕ} → i < length row → Counted row i count
    → more ≡ length (part_lengths (get_or row i 0 ∷ [])) → more ≤ 1 → Counted row (i + 1) (count + more)
counted-more row i less before one small =
    let both = ap length (parts-front row i less)
    ∙ length-append (part_lengths (take i row)) (part_lengths (get_or row i 0 ∷ [])) in
    record {
      within = omega arith;
      counted = omega (arith, before.counted, one, both);
      few = omega (arith, before.few, small);
    }

pub counted-all : (row : List ℕ) (i : ℕ) {count : ℕ} → length row ≤ i → Counted row i count
    → count ≡ length (part_lengths row)
counted-all row i past done = done.counted ∙ ap (λ (l : List ℕ). length (part_lengths l)) (take_all i row past)

-- one byte of a board that may be silent
one-part : (silent : Bool) (b : ℕ) → unless (silent || eqb b 0) (b ∷ []) ≡ unless silent (part_lengths (b ∷ []))
one-part true b = refl
one-part false zero = refl
one-part false (suc b) = rw (ne_eqb (suc b) 0 (λ is. omega (arith, is)))

unless-none : (silent : Bool) → unless {A = ℕ} silent [] ≡ []
unless-none true = refl
unless-none false = refl

unless-append : (silent : Bool) (s t : List ℕ) → unless silent (s ++ t) ≡ unless silent s ++ unless silent t
unless-append true s t = refl
unless-append false s t = refl

module _ (row old : List ℕ) (at : ℕ) (silent : Bool) where
  -- the parts that begin in the first bytes have been put
  pub record PartsPut (i : ℕ) (new : List ℕ) (next : ℕ) : Type 0 where
    pub within : i ≤ length row
    pub put : Put old at (unless silent (part_lengths (take i row))) new next

  pub parts_none : (next : ℕ) → Put old at [] old next → PartsPut 0 old next
  parts_none next none = record { within = omega arith; put = put_as old at (unless-none silent) none }

  pub parts_more : (i : ℕ) {mid new : List ℕ} {next end : ℕ} → i < length row → PartsPut i mid next
      → Put mid next (unless (silent || eqb (get_or row i 0) 0) (get_or row i 0 ∷ [])) new end
      → PartsPut (i + 1) new end
  parts_more i less before one =
      let both : unless silent (part_lengths (take (i + 1) row))
      ≡ unless silent (part_lengths (take i row)) ++ unless (silent || eqb (get_or row i 0) 0) (get_or row i 0 ∷ []) =
      ap (unless silent) (parts-front row i less)
      ∙ unless-append silent (part_lengths (take i row)) (part_lengths (get_or row i 0 ∷ []))
      ∙ ap (λ (l : List ℕ). unless silent (part_lengths (take i row)) ++ l) (sym (one-part silent (get_or row i 0))) in
      record { within = omega arith; put = put_then old at _ _ _ both before.put one }

  pub parts_all : (i : ℕ) {new : List ℕ} {next : ℕ} → length row ≤ i → PartsPut i new next
      → Put old at (unless silent (part_lengths row)) new next
  parts_all i past done =
      put_as old at (ap (λ (l : List ℕ). unless silent (part_lengths l)) (sym (take_all i row past))) done.put

-- a board's row is no longer than a message may be
take_short : (k : ℕ) (l : List ℕ) → length (take k l) ≤ k
take_short zero l = omega arith
take_short (suc k) [] = omega arith
take_short (suc k) (x ∷ l) = omega (arith, take_short k l)

row-short : (boards : ℕ) (rows : List ℕ) (board : ℕ)
    → length (get_or (messages_in rows (replicate boards max_length)) board []) ≤ max_length
row-short zero rows board = omega arith
row-short (suc boards) rows zero = take_short max_length rows
row-short (suc boards) rows (suc board) = row-short boards (drop max_length rows) board

pub short : (rows : List ℕ) (board : ℕ) → length (get_or (rows_in rows) board []) ≤ max_length
unfolding rows_in
short rows board = row-short max_masters rows board

-- the parts of each board are those of its row
parts-of : (lists : List (List ℕ)) (board : ℕ)
    → part_lengths (get_or lists board []) ≡ get_or (map part_lengths lists) board []
parts-of [] board = refl
parts-of (list ∷ lists) zero = refl
parts-of (list ∷ lists) (suc board) = parts-of lists board

count_of : (lists : List (List ℕ)) (board : ℕ)
    → length (part_lengths (get_or lists board [])) ≡ get_or (map length (map part_lengths lists)) board 0
count_of [] board = refl
count_of (list ∷ lists) zero = refl
count_of (list ∷ lists) (suc board) = count_of lists board

pub parts_at : (rows : List ℕ) (board : ℕ) → part_lengths (get_or (rows_in rows) board []) ≡ get_or (parts_in rows) board []
parts_at rows board = parts-of (rows_in rows) board

pub count_at : (rows : List ℕ) (board : ℕ)
    → length (part_lengths (get_or (rows_in rows) board [])) ≡ get_or (part_counts rows) board 0
count_at rows board = count_of (rows_in rows) board

-- and there are as many as boards
pub parts-length : (rows : List ℕ) → length (parts_in rows) ≡ max_masters
unfolding rows_in
parts-length rows = refl

pub counts-length : (rows : List ℕ) → length (part_counts rows) ≡ max_masters
unfolding rows_in
counts-length rows = refl
