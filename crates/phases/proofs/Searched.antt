-- The search for a sample that ends a short phase: what holds at the loop's head, and what a turn does.
use Prim.Native.Nat.{ℕ, suc, ◌+◌, ◌≤◌, ◌<◌}
use native.Mathlib.Numerals.{add-one}
use native.Mathlib.Omega.{arith}
use mathlib.Core.Path.{◌≡◌, refl, ap₂, ◌∙◌}
use mathlib.Core.Bool.{Bool, true, false, cond}
use mathlib.Core.List.{List, [], ◌∷◌}
use lib.ListN.{length, get_or, drop, drop_of_length-le}
use lib.Seq.{drop-cons}
use Rattle.levels.specs.Levels.{scl}
use Rattle.trace.specs.Trace.{Rising}
use Rattle.phases.specs.declared.phase.Limits.{Limits}
use Rattle.phases.specs.declared.phase.Phase.{Phase}
use Rattle.phases.specs.Phases.{cut_off, goes_on, next, ends_short, short_from, first_under}

module _ (limits : Limits) (stamps levels : List ℕ) where
  -- the first i samples end no short phase, this phase runs, and it began no later than the next sample
  pub record Searched (phase : Phase) (i : ℕ) : Type 0 where
    pub within : i ≤ length levels
    pub same : first_under limits stamps levels ≡ i + short_from limits phase (drop i stamps) (drop i levels)
    pub ahead : i < length levels → phase.began ≤ get_or stamps i 0

pub searched-start : (limits : Limits) (stamps levels : List ℕ) → length stamps ≡ length levels → 0 < length levels
    → Searched limits stamps levels (cut_off (get_or levels 0 0)) 1
searched-start limits [] levels long some = absurd (omega arith)
searched-start limits (stamp ∷ stamps) [] long some = absurd (omega arith)
searched-start limits (stamp ∷ stamps) (level ∷ levels) long some =
    record { within = omega arith; same = omega arith; ahead = λ more. omega arith }

pub none-empty : (limits : Limits) (stamps levels : List ℕ) → length levels ≡ 0 → 0 ≡ first_under limits stamps levels
none-empty limits [] levels empty = refl
none-empty limits (stamp ∷ stamps) [] empty = refl
none-empty limits (stamp ∷ stamps) (level ∷ levels) empty = absurd (omega arith)

-- a phase that runs at a sample began no later
pub next-began : (phase : Phase) (stamp level : ℕ) → phase.began ≤ stamp → (next phase stamp level).began ≤ stamp
unfolding next
next-began phase stamp level before = go (goes_on phase level)
  where
    go : (on : Bool) → (cond on phase (record { scl = scl level; whole = true; began = stamp })).began ≤ stamp
    go true = before
    go false = omega arith

module _ (limits : Limits) (stamps levels : List ℕ) (phase : Phase) (i : ℕ)
    (searched : Searched limits stamps levels phase i) where
  module _ (long : length stamps ≡ length levels) (less : i < length levels) where
    here : first_under limits stamps levels
        ≡ i + cond (ends_short limits phase (get_or stamps i 0) (get_or levels i 0)) 0
        (suc (short_from limits (next phase (get_or stamps i 0) (get_or levels i 0)) (drop (suc i) stamps)
        (drop (suc i) levels)))
    here =
        searched.same
        ∙ ap₂ (λ (s l : List ℕ). i + short_from limits phase s l) (drop-cons stamps i 0 (omega arith))
        (drop-cons levels i 0 less)

    pub searched-found : ends_short limits phase (get_or stamps i 0) (get_or levels i 0) ≡ true
        → i ≡ first_under limits stamps levels
    searched-found short = omega (arith, rw short at here)

    pub searched-more : Rising stamps → ends_short limits phase (get_or stamps i 0) (get_or levels i 0) ≡ false
        → Searched limits stamps levels (next phase (get_or stamps i 0) (get_or levels i 0)) (i + 1)
    searched-more rising enough =
        record {
          within = omega arith;
          same = rw add-one (omega (arith, rw enough at here));
          ahead = λ more.
              let began = next-began phase (get_or stamps i 0) (get_or levels i 0) (searched.ahead less) in
              let rises : get_or stamps i 0 < get_or stamps (suc i) 0 = rising.above i (omega arith) in
              rw add-one (omega (arith, began, rises));
        }

  pub searched-none : length levels ≤ i → length stamps ≤ i → i ≡ first_under limits stamps levels
  searched-none end stamps-end =
      omega (
        arith,
        searched.same
            ∙ ap₂ (λ (s l : List ℕ). i + short_from limits phase s l) (drop_of_length-le stamps stamps-end)
            (drop_of_length-le levels end),
      )
