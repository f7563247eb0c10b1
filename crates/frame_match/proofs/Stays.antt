-- What settle writes, and what stays.
use Prim.Native.Nat.{ℕ, zero, suc, ◌+◌, ◌-◌, ◌*◌, ◌≤◌, ◌<◌}
use native.Mathlib.Omega.{arith}
use mathlib.Core.Path.{◌≡◌, refl, ap, ◌∙◌}
use mathlib.Core.Bool.{Bool, true, false, cond, not, ◌&&◌}
use mathlib.Core.List.{List}
use mathlib.Core.Logic.{◌⊎◌, inl, inr}
use lib.Dec.{eqb, ltb}
use lib.ListN.{length, get_or, set, length-set}
use lib.Seq.{get_or-set_same, get_or-set_other}
use borrow.Author.Tests.{ltb-true, lt-ltb, le-ltb, eqb-true, eqb-false}
use Rattle.frame_match.specs.declared.Found.{Found}
use Rattle.frame_match.specs.Book.{number_at, kind_of, state_of, kept, is_of}
use Rattle.frame_match.specs.Rows.{counting, between, boards_end}
use Rattle.frame_match.specs.Settled.{state_after, marked, stands, board_after, boards_after, settled}
use Rattle.frame_match.proofs.Choosing.{boards-after}

module _ (row state number : ℕ) (book : List ℕ) where
  marked-length : length (marked row state number book) ≡ length book
  unfolding marked
  marked-length = go (eqb state 1 && not (eqb (state_of book row) 1))
    where
      go : (begins : Bool) → length (cond begins (set book (row * 8 + 2) (kept number)) book) ≡ length book
      go true = length-set book (row * 8 + 2) (kept number)
      go false = refl

  stands-length : length (stands row state number book) ≡ length book
  stands-length = length-set (marked row state number book) (row * 8 + 1) (kept state) ∙ marked-length

  -- a board's row: how it stands, and since when
  stands-other : (place : ℕ) → (place ≡ row * 8 + 1 → ⊥) → (place ≡ row * 8 + 2 → ⊥)
      → get_or (stands row state number book) place 0 ≡ get_or book place 0
  unfolding marked
  stands-other place not-state not-since =
      get_or-set_other (marked row state number book) (row * 8 + 1) place (kept state) 0 not-state
      ∙ go (eqb state 1 && not (eqb (state_of book row) 1))
    where
      go : (begins : Bool) → get_or (cond begins (set book (row * 8 + 2) (kept number)) book) place 0 ≡ get_or book place 0
      go true = get_or-set_other book (row * 8 + 2) place (kept number) 0 not-since
      go false = refl

  stands-state : row * 8 + 1 < length book → state_of (stands row state number book) row ≡ kept state
  stands-state within =
      let room : row * 8 + 1 < length (marked row state number book) = omega (arith, marked-length) in
      get_or-set_same (marked row state number book) (row * 8 + 1) (kept state) 0 room

module _ (events frame : List ℕ) (found : Found) (number : ℕ) where
  -- a place that is of no board in these rows, or not how it stands
  boards-other : (count from place : ℕ) (book : List ℕ)
      → ((row : ℕ) → from ≤ row → row < from + count → (place ≡ row * 8 + 1 → ⊥) × (place ≡ row * 8 + 2 → ⊥))
      → get_or (boards_after events frame found number book (counting from count)) place 0 ≡ get_or book place 0
  boards-other zero from place book other = refl
  boards-other (suc count) from place book other =
      let here = other from (omega arith) (omega arith) in
      boards-other count (suc from) place (board_after events frame found number book from)
      (λ row low high. other row (omega arith) (omega arith))
      ∙ stands-other from _ number book place here.0 here.1

  stays-apart : (from row field : ℕ) (book : List ℕ) → field < 8 → (from ≡ row → ⊥)
      → number_at (board_after events frame found number book from) row field ≡ number_at book row field
  stays-apart from row field book small apart =
      stands-other from _ number book (row * 8 + field) (λ e. omega (arith, apart)) (λ e. omega (arith, apart))

  board-stands : (count from row : ℕ) (book : List ℕ) → from ≤ row → row < from + count → row * 8 + 1 < length book
      → state_of (boards_after events frame found number book (counting from count)) row
      ≡ kept (state_after found (kind_of book row) (state_of book row) (is_of book events frame row))
  board-stands zero from row book low high within = absurd (omega arith)
  board-stands (suc count) from row book low high within =
      go (eqb from row) refl
      (board-stands count (suc from) row (board_after events frame found number book from))
      (boards-other count (suc from) (row * 8 + 1) (board_after events frame found number book from))
    where
      go : (here : Bool) → eqb from row ≡ here
          → (suc from ≤ row → row < suc from + count → row * 8 + 1 < length (board_after events frame found number book from)
          → state_of (boards_after events frame found number (board_after events frame found number book from) (counting (suc from) count)) row
          ≡ kept (state_after found (kind_of (board_after events frame found number book from) row)
          (state_of (board_after events frame found number book from) row) (is_of (board_after events frame found number book from) events frame row)))
          → (((other : ℕ) → suc from ≤ other → other < suc from + count → (row * 8 + 1 ≡ other * 8 + 1 → ⊥) × (row * 8 + 1 ≡ other * 8 + 2 → ⊥))
          → get_or (boards_after events frame found number (board_after events frame found number book from) (counting (suc from) count)) (row * 8 + 1) 0
          ≡ get_or (board_after events frame found number book from) (row * 8 + 1) 0)
          → state_of (boards_after events frame found number (board_after events frame found number book from) (counting (suc from) count)) row
          ≡ kept (state_after found (kind_of book row) (state_of book row) (is_of book events frame row))
      go true is later stays =
          let same : from ≡ row = eqb-true from row is in
          stays (λ other low high. ((λ e. omega arith), (λ e. omega arith)))
          ∙ rw same (stands-state row _ number book within)
      go false is later stays =
          let apart : from ≡ row → ⊥ = eqb-false from row is in
          let room : row * 8 + 1 < length (board_after events frame found number book from) =
          omega (arith, within, stands-length from (state_after found (kind_of book from) (state_of book from) (is_of book events frame from)) number book) in
          later (omega (arith, apart)) (omega arith) room
          ∙ rw (
            stays-apart from row 0 book (omega arith) apart,
            stays-apart from row 1 book (omega arith) apart,
            stays-apart from row 3 book (omega arith) apart,
            stays-apart from row 4 book (omega arith) apart,
          )

-- ---- the whole book after settle
module _ (book : List ℕ) (rows : ℕ) (events frame : List ℕ) (load : ℕ) (found : Found) (number : ℕ) where
  -- a place that is not how the load or one of its boards stands
  settled-other : (place : ℕ) → (place ≡ load * 8 + 1 → ⊥)
      → ((row : ℕ) → load + 1 ≤ row → row < boards_end book rows load → (place ≡ row * 8 + 1 → ⊥) × (place ≡ row * 8 + 2 → ⊥))
      → get_or (settled book rows events frame load found number) place 0 ≡ get_or book place 0
  unfolding settled
  settled-other place not-load other = go (ltb load rows) refl
    where
      go : (there : Bool) → ltb load rows ≡ there
          → get_or (cond there (boards_after events frame found number (set book (load * 8 + 1) (kept 1))
          (between (load + 1) (boards_end book rows load))) book) place 0 ≡ get_or book place 0
      go false none = refl
      go true is =
          let after : load + 1 ≤ boards_end book rows load = boards-after book rows load (ltb-true load rows is) in
          boards-other events frame found number (boards_end book rows load - (load + 1)) (load + 1) place
          (set book (load * 8 + 1) (kept 1)) (λ row low high. other row low (omega arith))
          ∙ get_or-set_other book (load * 8 + 1) place (kept 1) 0 not-load

  -- the rows before the load and from the end of its boards on stay as they were
  pub others-stay : load < rows → (row field : ℕ) → field < 8 → (row < load) ⊎ (boards_end book rows load ≤ row)
      → number_at (settled book rows events frame load found number) row field ≡ number_at book row field
  others-stay there row field small apart =
      settled-other (row * 8 + field) (away apart) (λ other low high. beyond other low high apart)
    where
      away : (row < load) ⊎ (boards_end book rows load ≤ row) → row * 8 + field ≡ load * 8 + 1 → ⊥
      away (inl before) e = omega arith
      away (inr after) e = omega (arith, boards-after book rows load there)

      beyond : (other : ℕ) → load + 1 ≤ other → other < boards_end book rows load
          → (row < load) ⊎ (boards_end book rows load ≤ row)
          → (row * 8 + field ≡ other * 8 + 1 → ⊥) × (row * 8 + field ≡ other * 8 + 2 → ⊥)
      beyond other low high (inl before) = ((λ e. omega arith), (λ e. omega arith))
      beyond other low high (inr after) = ((λ e. omega arith), (λ e. omega arith))

  -- of every row all numbers stay but how it stands and since when
  pub fields-stay : (row field : ℕ) → field < 8 → (field ≡ 1 → ⊥) → (field ≡ 2 → ⊥)
      → number_at (settled book rows events frame load found number) row field ≡ number_at book row field
  fields-stay row field small not-state not-since =
      settled-other (row * 8 + field) (λ e. omega (arith, not-state))
      (λ other low high. ((λ e. omega (arith, not-state)), (λ e. omega (arith, not-since))))

  -- a frame about no load changes nothing
  pub none-settled : rows ≤ load → settled book rows events frame load found number ≡ book
  unfolding settled
  none-settled none = rw (le-ltb load rows none)

  module _ (there : load < rows) where
    is-settled : settled book rows events frame load found number
        ≡ boards_after events frame found number (set book (load * 8 + 1) (kept 1))
        (between (load + 1) (boards_end book rows load))
    unfolding settled
    is-settled = rw (lt-ltb load rows there)

    -- the load has been met
    pub load-met : load * 8 + 1 < length book → state_of (settled book rows events frame load found number) load ≡ 1
    unfolding kept
    load-met within =
        ap (λ (list : List ℕ). state_of list load) is-settled
        ∙ boards-other events frame found number (boards_end book rows load - (load + 1)) (load + 1) (load * 8 + 1)
        (set book (load * 8 + 1) 1) (λ row low high. ((λ e. omega arith), (λ e. omega arith)))
        ∙ get_or-set_same book (load * 8 + 1) 1 0 within

    -- each of its boards stands as the rules say, by what the book held before
    pub boards-stand : (row : ℕ) → load < row → row < boards_end book rows load → row * 8 + 1 < length book
        → state_of (settled book rows events frame load found number) row
        ≡ kept (state_after found (kind_of book row) (state_of book row) (is_of book events frame row))
    boards-stand row low high within =
        let met : (field : ℕ) → field < 8 → number_at (set book (load * 8 + 1) (kept 1)) row field ≡ number_at book row field =
        λ field small. get_or-set_other book (load * 8 + 1) (row * 8 + field) (kept 1) 0 (λ e. omega arith) in
        let room : row * 8 + 1 < length (set book (load * 8 + 1) (kept 1)) =
        omega (arith, within, length-set book (load * 8 + 1) (kept 1)) in
        ap (λ (list : List ℕ). state_of list row) is-settled
        ∙ board-stands events frame found number (boards_end book rows load - (load + 1)) (load + 1) row
        (set book (load * 8 + 1) (kept 1)) (omega arith) (omega arith) room
        ∙ rw (met 0 (omega arith), met 1 (omega arith), met 3 (omega arith), met 4 (omega arith))
