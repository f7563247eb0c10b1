-- What find's answer says of the frame and of the book, whatever the book and the capture hold.
use Prim.Native.Nat.{ℕ, ◌+◌, ◌≤◌, ◌<◌}
use native.Mathlib.Omega.{arith}
use mathlib.Core.Path.{◌≡◌, refl, sym, ◌∙◌}
use mathlib.Core.Bool.{Bool, true, false, cond, not, ◌&&◌}
use mathlib.Core.List.{List}
use mathlib.Core.Logic.{◌⊎◌, inl, inr}
use lib.Dec.{ltb}
use borrow.Author.Tests.{ltb-true, ltb-false, lt-ltb}
use Rattle.laws.specs.Search.{any}
use Rattle.laws.proofs.Bools.{both}
use Rattle.laws.proofs.Same.{same-equal}
use Rattle.frame_match.specs.declared.Found.{Found}
use Rattle.frame_match.specs.declared.Found.TheVariants.{Waiting, Rehearsed, Different, Other}
use Rattle.frame_match.specs.Book.{events_of, is_rehearsed, waits_with, is_rehearsed_as, is_message}
use Rattle.frame_match.specs.Rows.{between, boards_end}
use Rattle.frame_match.specs.Frames.{frame_of, later_than}
use Rattle.frame_match.specs.Rules.{waiting_row, rehearsed_row, is_next, is_passed, is_later, comes, is_before, unlike, ahead, found}
use Rattle.frame_match.proofs.Firsts.{IsFirst, is-first, some-found, none_found}

-- ---- five tests in their order, and the answers that they give
module _ (waiting : Bool) (row : ℕ) (is-next : Bool) (next : ℕ) (later : Bool) (load : ℕ) (before there : Bool) where
  abbrev chosen : Found
  chosen =
      cond waiting (Waiting row)
      (cond is-next (Rehearsed next) (cond later (Rehearsed load) (cond before Other (cond there Different Other))))

wrong : {A : Type 0} → ◌≡◌ {A = ℕ} 0 1 → A
wrong never = absurd (omega arith)

told-waiting : (waiting : Bool) (row : ℕ) (is-next : Bool) (next : ℕ) (later : Bool) (load : ℕ) (before there : Bool) (at : ℕ)
    → chosen waiting row is-next next later load before there ≡ Waiting at → (waiting ≡ true) × (row ≡ at)
told-waiting true row is-next next later load before there at reply = (refl, cc)
told-waiting false row true next later load before there at reply = wrong cc
told-waiting false row false next true load before there at reply = wrong cc
told-waiting false row false next false load true there at reply = wrong cc
told-waiting false row false next false load false true at reply = wrong cc
told-waiting false row false next false load false false at reply = wrong cc

told-rehearsed : (waiting : Bool) (row : ℕ) (is-next : Bool) (next : ℕ) (later : Bool) (load : ℕ) (before there : Bool) (at : ℕ)
    → chosen waiting row is-next next later load before there ≡ Rehearsed at
    → (waiting ≡ false) × (((is-next ≡ true) × (next ≡ at)) ⊎ ((is-next ≡ false) × (later ≡ true) × (load ≡ at)))
told-rehearsed true row is-next next later load before there at reply = wrong cc
told-rehearsed false row true next later load before there at reply = (refl, inl (refl, cc))
told-rehearsed false row false next true load before there at reply = (refl, inr (refl, refl, cc))
told-rehearsed false row false next false load true there at reply = wrong cc
told-rehearsed false row false next false load false true at reply = wrong cc
told-rehearsed false row false next false load false false at reply = wrong cc

told-different : (waiting : Bool) (row : ℕ) (is-next : Bool) (next : ℕ) (later : Bool) (load : ℕ) (before there : Bool)
    → chosen waiting row is-next next later load before there ≡ Different
    → (waiting ≡ false) × (is-next ≡ false) × (later ≡ false) × (before ≡ false) × (there ≡ true)
told-different true row is-next next later load before there reply = wrong cc
told-different false row true next later load before there reply = wrong cc
told-different false row false next true load before there reply = wrong cc
told-different false row false next false load true there reply = wrong cc
told-different false row false next false load false true reply = (refl, refl, refl, refl, refl)
told-different false row false next false load false false reply = wrong cc

told-other : (waiting : Bool) (row : ℕ) (is-next : Bool) (next : ℕ) (later : Bool) (load : ℕ) (before there : Bool)
    → chosen waiting row is-next next later load before there ≡ Other
    → (waiting ≡ false) × (is-next ≡ false) × (later ≡ false) × ((before ≡ true) ⊎ (there ≡ false))
told-other true row is-next next later load before there reply = wrong cc
told-other false row true next later load before there reply = wrong cc
told-other false row false next true load before there reply = wrong cc
told-other false row false next false load true there reply = (refl, refl, refl, inl refl)
told-other false row false next false load false true reply = wrong cc
told-other false row false next false load false false reply = (refl, refl, refl, inr refl)

-- ---- the answers
-- the frame is the message of no board that waits
abbrev NoneWaits : List ℕ → ℕ → List ℕ → List ℕ → Type 0
NoneWaits book rows events frame = (row : ℕ) → row < rows → waits_with book events frame row ≡ false

module _ (book : List ℕ) (rows : ℕ) (events : List ℕ) (frames : List (List ℕ)) (next : ℕ) where
  none-waits : ltb (waiting_row book rows events (frame_of frames)) rows ≡ false → NoneWaits book rows events (frame_of frames)
  none-waits none =
      none_found (waits_with book events (frame_of frames)) rows (ltb-false (waiting_row book rows events (frame_of frames)) rows none)

  -- 1: a row that is answered is the first board that waits with this message
  pub waiting : (row : ℕ) → found book rows events frames next ≡ Waiting row
      → IsFirst (waits_with book events (frame_of frames)) 0 rows row
  unfolding found ahead unlike
  waiting row reply =
      let told = told-waiting (ltb (waiting_row book rows events (frame_of frames)) rows)
      (waiting_row book rows events (frame_of frames)) (is_next book rows events (frame_of frames) next) next
      (is_later book rows events frames next) (rehearsed_row book rows events (frame_of frames) (next + 1))
      (is_before book rows events frames next) (ltb next rows) row reply in
      let is : waiting_row book rows events (frame_of frames) ≡ row = told.1 in
      is-first (waits_with book events (frame_of frames)) rows 0 row (sym is)
      (rw (← is) (ltb-true (waiting_row book rows events (frame_of frames)) rows told.0))

  -- and where a board waits with this message, one is answered, whatever load is next
  pub waiting-first : (row : ℕ) → row < rows → waits_with book events (frame_of frames) row ≡ true
      → found book rows events frames next ≡ Waiting (waiting_row book rows events (frame_of frames))
  unfolding found
  waiting-first row less is =
      rw (lt-ltb _ _ (some-found (waits_with book events (frame_of frames)) rows row less is))

  -- 2: the next load's frame is the next load's, where no board waits with it
  pub next-first : NoneWaits book rows events (frame_of frames) → next < rows
      → is_rehearsed_as book events (frame_of frames) next ≡ true → found book rows events frames next ≡ Rehearsed next
  unfolding found
  next-first none less is = go (ltb (waiting_row book rows events (frame_of frames)) rows) refl
    where
      not-both : false ≡ true → ⊥
      not-both e = let never : ◌≡◌ {A = ℕ} 0 1 = cc in omega arith

      go : (waits_one : Bool) → ltb (waiting_row book rows events (frame_of frames)) rows ≡ waits_one
          → found book rows events frames next ≡ Rehearsed next
      go false nobody = rw (nobody, lt-ltb _ _ less, is)
      go true one =
          let first = is-first (waits_with book events (frame_of frames)) rows 0 _ refl
          (ltb-true (waiting_row book rows events (frame_of frames)) rows one) in
          absurd (not-both (sym (none _ first.within) ∙ first.passes))

  -- the frame is that of a load, from the next one on; another than the next may be passed over
  pub record AsRehearsed (load : ℕ) : Type 0 where
    pub from_next : next ≤ load
    pub within : load < rows
    pub rehearsed : is_rehearsed book load ≡ true
    pub frame_is : events_of book events load ≡ frame_of frames
    pub none-waits : NoneWaits book rows events (frame_of frames)
    pub not-next : next < load → is_rehearsed_as book events (frame_of frames) next ≡ false
    pub first-after : next < load → IsFirst (is_rehearsed_as book events (frame_of frames)) (next + 1) rows load
    pub passed_over : next < load → is_passed book events (later_than frames) next load ≡ true

  as-next : NoneWaits book rows events (frame_of frames) → is_next book rows events (frame_of frames) next ≡ true
      → AsRehearsed next
  as-next none is =
      let two = both (ltb next rows) (is_rehearsed_as book events (frame_of frames) next) is in
      let its = both (is_rehearsed book next) _ two.1 in
      record {
        from_next = omega arith;
        within = ltb-true next rows two.0;
        rehearsed = its.0;
        frame_is = same-equal (events_of book events next) (frame_of frames) its.1;
        none-waits = none;
        not-next = λ less. absurd (omega arith);
        first-after = λ less. absurd (omega arith);
        passed_over = λ less. absurd (omega arith);
      }

  as-later : NoneWaits book rows events (frame_of frames) → is_next book rows events (frame_of frames) next ≡ false
      → is_later book rows events frames next ≡ true
      → AsRehearsed (rehearsed_row book rows events (frame_of frames) (next + 1))
  as-later none other is =
      let load = rehearsed_row book rows events (frame_of frames) (next + 1) in
      let three = both (ltb next rows && ltb load rows) (is_passed book events (later_than frames) next load) is in
      let two = both (ltb next rows) (ltb load rows) three.0 in
      let first = is-first (is_rehearsed_as book events (frame_of frames)) rows (next + 1) load refl (ltb-true load rows two.1) in
      let its = both (is_rehearsed book load) _ first.passes in
      record {
        from_next = omega (arith, first.since);
        within = first.within;
        rehearsed = its.0;
        frame_is = same-equal (events_of book events load) (frame_of frames) its.1;
        none-waits = none;
        not-next = λ less. rw two.0 at other;
        first-after = λ less. first;
        passed_over = λ less. three.1;
      }

  -- 2 and 3
  pub as-rehearsed : (load : ℕ) → found book rows events frames next ≡ Rehearsed load → AsRehearsed load
  unfolding found ahead unlike
  as-rehearsed load reply =
      let told = told-rehearsed (ltb (waiting_row book rows events (frame_of frames)) rows)
      (waiting_row book rows events (frame_of frames)) (is_next book rows events (frame_of frames) next) next
      (is_later book rows events frames next) (rehearsed_row book rows events (frame_of frames) (next + 1))
      (is_before book rows events frames next) (ltb next rows) load reply in
      go (none-waits told.0) told.1
    where
      go : NoneWaits book rows events (frame_of frames)
          → ((is_next book rows events (frame_of frames) next ≡ true) × (next ≡ load))
          ⊎ ((is_next book rows events (frame_of frames) next ≡ false) × (is_later book rows events frames next ≡ true)
          × (rehearsed_row book rows events (frame_of frames) (next + 1) ≡ load))
          → AsRehearsed load
      go none (inl two) = rw (← two.1) (as-next none two.0)
      go none (inr three) = rw (← three.2) (as-later none three.0 three.1)

  -- 5: there is a next load and the frame is not its own; it is the message of a board of it, or its frame is not the
  -- first rehearsed one that follows
  pub record Differs : Type 0 where
    pub there : next < rows
    pub none-waits : NoneWaits book rows events (frame_of frames)
    pub not-next : is_rehearsed_as book events (frame_of frames) next ≡ false
    pub in_place : (any (is_message book events (frame_of frames)) (between (next + 1) (boards_end book rows next)) ≡ true)
        ⊎ (comes book rows events next (later_than frames) ≡ false)

  pub differs : found book rows events frames next ≡ Different → Differs
  unfolding found ahead unlike
  differs reply =
      let told = told-different (ltb (waiting_row book rows events (frame_of frames)) rows)
      (waiting_row book rows events (frame_of frames)) (is_next book rows events (frame_of frames) next) next
      (is_later book rows events frames next) (rehearsed_row book rows events (frame_of frames) (next + 1))
      (is_before book rows events frames next) (ltb next rows) reply in
      let there : ltb next rows ≡ true = told.4 in
      record {
        there = ltb-true next rows there;
        none-waits = none-waits told.0;
        not-next = rw there at told.1;
        in_place = either (any (is_message book events (frame_of frames)) (between (next + 1) (boards_end book rows next)))
            (comes book rows events next (later_than frames)) (rw there at told.3);
      }
    where
      either : (message follows : Bool) → not message && follows ≡ false → (message ≡ true) ⊎ (follows ≡ false)
      either true follows none = inl refl
      either false follows none = inr none

  -- 4 and 6: no load is next; or the frame is the message of none of the next load's boards, and of the rehearsed frames
  -- that follow the first is the next load's
  pub record NotRehearsed : Type 0 where
    pub none-waits : NoneWaits book rows events (frame_of frames)
    pub not-next : next < rows → is_rehearsed_as book events (frame_of frames) next ≡ false
    pub no-message : next < rows
        → any (is_message book events (frame_of frames)) (between (next + 1) (boards_end book rows next)) ≡ false
    pub follows : next < rows → comes book rows events next (later_than frames) ≡ true

  pub not-rehearsed : found book rows events frames next ≡ Other → NotRehearsed
  unfolding found ahead unlike
  not-rehearsed reply =
      let told = told-other (ltb (waiting_row book rows events (frame_of frames)) rows)
      (waiting_row book rows events (frame_of frames)) (is_next book rows events (frame_of frames) next) next
      (is_later book rows events frames next) (rehearsed_row book rows events (frame_of frames) (next + 1))
      (is_before book rows events frames next) (ltb next rows) reply in
      record {
        none-waits = none-waits told.0;
        not-next = λ less. rw (lt-ltb next rows less) at told.1;
        no-message = λ less. (two (any (is_message book events (frame_of frames)) (between (next + 1) (boards_end book rows next)))
            (comes book rows events next (later_than frames)) (before less told.3)).0;
        follows = λ less. (two (any (is_message book events (frame_of frames)) (between (next + 1) (boards_end book rows next)))
            (comes book rows events next (later_than frames)) (before less told.3)).1;
      }
    where
      not-both : true ≡ false → ⊥
      not-both e = let never : ◌≡◌ {A = ℕ} 0 1 = cc in omega arith

      before : next < rows → (is_before book rows events frames next ≡ true) ⊎ (ltb next rows ≡ false)
          → not (any (is_message book events (frame_of frames)) (between (next + 1) (boards_end book rows next)))
          && comes book rows events next (later_than frames) ≡ true
      before less (inl is) = rw (lt-ltb next rows less) at is
      before less (inr none) = absurd (not-both (sym (lt-ltb next rows less) ∙ none))

      two : (message follow : Bool) → not message && follow ≡ true → (message ≡ false) × (follow ≡ true)
      two false follow is = (refl, is)
      two true follow is = absurd (not-both (sym is))
