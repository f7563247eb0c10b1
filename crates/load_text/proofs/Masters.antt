-- Which board a master is: the loops that look for it, and that masters and boards that are not silent are one to one.
use mathlib.Core.Path.{◌≡◌, refl, sym, ap, ◌∙◌}
use mathlib.Core.Bool.{Bool, true, false, not, ◌&&◌, ◌||◌, false≢true}
use mathlib.Core.List.{List, ◌∷◌}
use Prim.Native.Nat.{ℕ, zero, suc, ◌+◌, ◌-◌, ◌≤◌, ◌<◌, min}
use native.Mathlib.Nat.{not-suc-le-zero}
use native.Mathlib.Numerals.{add-one}
use native.Mathlib.Omega.{arith}
use lib.Dec.{eqb, leb}
use borrow.Author.Tests.{eqb-true, eqb-false, leb-true, leb-false}
use lib.ListN.{length, get_or, drop, drop_of_length-le}
use lib.Seq.{drop-cons}
use Rattle.load_text.specs.Boards.{board_of, master_of, count_of, left_after}

-- the tests of `left_after`
pub left-some : (one : Bool) (left : ℕ) → one || eqb left 0 ≡ false → 1 ≤ left
left-some true left test = absurd (false≢true (sym test))
left-some false left test = omega (arith, eqb-false left 0 test)

pub left-same : (one : Bool) (left : ℕ) → one || eqb left 0 ≡ true → left ≡ left_after one left
left-same true left test = refl
left-same false left test = omega (arith, eqb-true left 0 test)

pub left_less : (one : Bool) (left : ℕ) → one || eqb left 0 ≡ false → left - 1 ≡ left_after one left
left_less true left test = absurd (false≢true (sym test))
left_less false left test = refl

-- past a board: the masters that are left are sought among the others
board-next : (one : Bool) (others : List Bool) (left : ℕ) → not one && eqb left 0 ≡ false
    → board_of (one ∷ others) left ≡ suc (board_of others (left_after one left))
unfolding board_of
board-next true others left more = refl
board-next false others zero more = absurd (false≢true (sym more))
board-next false others (suc left) more = ap (λ (n : ℕ). suc (board_of others n)) (omega arith)

board-here : (one : Bool) (others : List Bool) (left : ℕ) → not one && eqb left 0 ≡ true
    → board_of (one ∷ others) left ≡ 0
unfolding board_of
board-here true others left found = absurd (false≢true found)
board-here false others zero found = refl
board-here false others (suc left) found =
    let none : suc left ≡ 0 = eqb-true (suc left) 0 found in
    absurd (omega arith)

module _ (silent : List Bool) (master : ℕ) where
  -- the board of a master stands past the boards that were looked at
  abbrev pub Sought : ℕ → ℕ → Type 0
  Sought left board = (board ≤ length silent) × (board_of silent master ≡ board + board_of (drop board silent) left)

  pub sought-start : Sought master 0
  sought-start = (omega arith, omega arith)

  module _ (left board : ℕ) (sought : Sought left board) (less : board < length silent) where
    pub sought-more : not (get_or silent board false) && eqb left 0 ≡ false
        → Sought (left_after (get_or silent board false) left) (board + 1)
    sought-more more =
        let past = drop-cons silent board false less in
        let next = ap (λ (l : List Bool). board_of l left) past
        ∙ board-next (get_or silent board false) (drop (suc board) silent) left more in
        (omega arith, rw add-one (omega (arith, sought.1, next)))

    pub sought-found : not (get_or silent board false) && eqb left 0 ≡ true → board ≡ board_of silent master
    sought-found found =
        let past = drop-cons silent board false less in
        let here = ap (λ (l : List Bool). board_of l left) past
        ∙ board-here (get_or silent board false) (drop (suc board) silent) left found in
        omega (arith, sought.1, here)

  pub sought-end : (left board : ℕ) → Sought left board → length silent ≤ board → board ≡ board_of silent master
  unfolding board_of
  sought-end left board sought end =
      let none = ap (λ (l : List Bool). board_of l left) (drop_of_length-le silent end) in
      omega (arith, sought.1, none)

-- a board counted
module _ (silent : List Bool) (board : ℕ) where
  -- the masters before a board are those that were counted, and those among the others
  pub record Counted (master i : ℕ) : Type 0 where
    pub within : i ≤ length silent
    pub most : master ≤ i
    pub same : master_of silent board ≡ master + master_of (drop i silent) (board - i)

  pub counted_start : Counted 0 0
  counted_start =
      let all : master_of silent board ≡ master_of silent (board - 0) = ap (master_of silent) (omega arith) in
      record { within = omega arith; most = omega arith; same = omega (arith, all) }

  counted_next : (one : Bool) (others : List Bool) (n : ℕ) → 0 < n
      → master_of (one ∷ others) n ≡ count_of one + master_of others (n - 1)
  unfolding master_of
  counted_next one others zero some = absurd (not-suc-le-zero some)
  counted_next one others (suc n) some =
      let past : n ≡ suc n - 1 = omega arith in
      ap (λ (k : ℕ). count_of one + master_of others k) past

  pub counted-more : (master i count : ℕ) → Counted master i → i < length silent → i < board
      → count ≡ count_of (get_or silent i false) → count ≤ 1 → Counted (master + count) (i + 1)
  counted-more master i count counted less before is small =
      let past = drop-cons silent i false less in
      let some : 0 < board - i = omega arith in
      let next = ap (λ (l : List Bool). master_of l (board - i)) past
      ∙ counted_next (get_or silent i false) (drop (suc i) silent) (board - i) some in
      let rest : master_of (drop (suc i) silent) (board - i - 1) ≡ master_of (drop (suc i) silent) (board - (i + 1)) =
      ap (master_of (drop (suc i) silent)) (omega arith) in
      record {
        within = omega arith;
        most = omega arith;
        same = rw add-one (omega (arith, counted.same, next, is, rw add-one at rest));
      }

  none_left : (i : ℕ) → length silent ≤ i → (n : ℕ) → master_of (drop i silent) n ≡ 0
  unfolding master_of
  none_left i end zero = refl
  none_left i end (suc n) = ap (λ (l : List Bool). master_of l (suc n)) (drop_of_length-le silent end)

  none-wanted : (others : List Bool) (n : ℕ) → n ≡ 0 → master_of others n ≡ 0
  unfolding master_of
  none-wanted others n is = ap (master_of others) is

  pub counted-done : (master i limit : ℕ) → Counted master i → length silent ≡ limit → min limit board ≤ i
      → master ≡ master_of silent board
  counted-done master i limit counted long end = by-test (leb board i) refl
    where
      by-test : (b : Bool) → leb board i ≡ b → master ≡ master_of silent board
      by-test true e =
          let none : board - i ≡ 0 = omega (arith, leb-true board i e) in
          omega (arith, counted.same, none-wanted (drop i silent) (board - i) none)
      by-test false e =
          let all : length silent ≤ i = omega (arith, leb-false board i e) in
          omega (arith, counted.same, none_left i all (board - i))
