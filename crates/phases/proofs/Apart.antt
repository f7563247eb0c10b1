-- Samples that are far enough apart end no short phase; a limit of 0 makes none short; the drawn phase that is too short.
use Prim.Native.Nat.{ℕ, zero, suc, ◌+◌, ◌*◌, ◌-◌, ◌≤◌, ◌<◌}
use native.Mathlib.Omega.{arith}
use mathlib.Core.Path.{◌≡◌, refl, ap}
use mathlib.Core.Bool.{Bool, true, false, not, ◌&&◌, and-false}
use mathlib.Core.List.{List, [], ◌∷◌}
use mir.Val.{bool_byte}
use lib.Dec.{ltb}
use lib.ListN.{length, get_or}
use borrow.Author.Tests.{lt-ltb, le-ltb}
use Rattle.encode.specs.Encode.{stamps_from}
use Rattle.phases.specs.declared.phase.Limits.{Limits}
use Rattle.phases.specs.declared.phase.Phase.{Phase}
use Rattle.phases.specs.Phases.{least_of, cut_off, goes_on, next, ends_short, short_from, first_under}
use Rattle.phases.proofs.Searched.{next-began}

-- each stamp is at least a gap above the one before
pub record Apart (gap : ℕ) (stamps : List ℕ) : Type 0 where
  pub apart : (i : ℕ) → suc i < length stamps → get_or stamps i 0 + gap ≤ get_or stamps (suc i) 0

apart-rest : {gap stamp : ℕ} {stamps : List ℕ} → Apart gap (stamp ∷ stamps) → Apart gap stamps
apart-rest spaced = record { apart = λ i within. spaced.apart (suc i) (omega arith) }

-- a phase that lasts as long as both limits is not short
not_short : (limits : Limits) (phase : Phase) (stamp level gap : ℕ) → limits.low ≤ gap → limits.high ≤ gap
    → phase.began + gap ≤ stamp → ends_short limits phase stamp level ≡ false
unfolding ends_short
not_short limits phase stamp level gap low high later =
    rw (long phase.scl) (and-false (not (goes_on phase level) && phase.whole))
  where
    long : (scl : Bool) → ltb (stamp - phase.began) (least_of limits scl) ≡ false
    long true = let most : limits.high ≤ stamp - phase.began = omega arith in le-ltb _ _ most
    long false = let most : limits.low ≤ stamp - phase.began = omega arith in le-ltb _ _ most

module _ (limits : Limits) (gap : ℕ) (low : limits.low ≤ gap) (high : limits.high ≤ gap) where
  none_from : (phase : Phase) (last : ℕ) (stamps levels : List ℕ) → phase.began ≤ last → Apart gap (last ∷ stamps)
      → length stamps ≡ length levels → short_from limits phase stamps levels ≡ length levels
  none_from phase last [] [] before spaced long = refl
  none_from phase last [] (level ∷ levels) before spaced long = absurd (omega arith)
  none_from phase last (stamp ∷ stamps) [] before spaced long = absurd (omega arith)
  none_from phase last (stamp ∷ stamps) (level ∷ levels) before spaced long =
      let later : last + gap ≤ stamp = spaced.apart 0 (omega arith) in
      let began : phase.began + gap ≤ stamp = omega arith in
      let began-next = next-began phase stamp level (omega arith) in
      rw (not_short limits phase stamp level gap low high began)
      (ap suc (none_from (next phase stamp level) stamp stamps levels began-next (apart-rest spaced) (omega arith)))

  -- gaps of at least both limits between all samples: no sample ends a short phase
  pub apart_none : (stamps levels : List ℕ) → Apart gap stamps → length stamps ≡ length levels
      → first_under limits stamps levels ≡ length levels
  apart_none [] [] spaced long = refl
  apart_none [] (level ∷ levels) spaced long = absurd (omega arith)
  apart_none (stamp ∷ stamps) [] spaced long = absurd (omega arith)
  apart_none (stamp ∷ stamps) (level ∷ levels) spaced long =
      ap suc (none_from (cut_off level) stamp stamps levels (omega arith) spaced (omega arith))

-- stamps that rise by a gap are a gap apart
pub stamps-apart : (count start gap : ℕ) → Apart gap (stamps_from start gap count)
stamps-apart zero start gap = record { apart = λ i within. absurd (omega arith) }
stamps-apart (suc zero) start gap = record { apart = λ i within. absurd (omega arith) }
stamps-apart (suc (suc count)) start gap =
    record { apart = λ i. first-or i (stamps-apart (suc count) (start + gap) gap) }
  where
    first-or : (i : ℕ) → Apart gap (stamps_from (start + gap) gap (suc count))
        → suc i < length (stamps_from start gap (suc (suc count)))
        → get_or (stamps_from start gap (suc (suc count))) i 0 + gap
        ≤ get_or (stamps_from start gap (suc (suc count))) (suc i) 0
    first-or zero later within = omega arith
    first-or (suc i) later within = later.apart i (omega arith)

-- after 3, 1 a bit's low phase is one gap long: the sample at which SCL rises again ends it
pub third-ends : (limits : Limits) (start gap more : ℕ) (bit : Bool) (levels : List ℕ) → gap < limits.low
    → first_under limits (stamps_from start gap (suc (suc (suc (suc more)))))
    (3 ∷ 1 ∷ 2 * bool_byte bit ∷ (2 * bool_byte bit + 1) ∷ levels) ≡ 3
unfolding next ends_short
third-ends limits start gap more true levels small =
    let short : start + gap + gap + gap - (start + gap + gap) < limits.low = omega arith in rw (lt-ltb _ _ short)
third-ends limits start gap more false levels small =
    let short : start + gap + gap + gap - (start + gap + gap) < limits.low = omega arith in rw (lt-ltb _ _ short)
