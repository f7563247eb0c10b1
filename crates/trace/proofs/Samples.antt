-- A trace taken apart into samples and put together again.
use Prim.Native.Nat.{ℕ, zero, suc, ◌<◌}
use native.Mathlib.Omega.{arith}
use mathlib.Core.Path.{◌≡◌, refl, ap}
use mathlib.Core.List.{List, [], ◌∷◌}
use lib.ListN.{length, get_or, drop}
use Rattle.trace.specs.Samples.{samples, stamps_of, levels_of}

pub samples-again : (list : List (ℕ × ℕ)) → samples (stamps_of list) (levels_of list) ≡ list
samples-again [] = refl
samples-again (sample ∷ list) = ap (λ l. sample ∷ l) (samples-again list)

pub stamps-again : (stamps levels : List ℕ) → length stamps ≡ length levels → stamps_of (samples stamps levels) ≡ stamps
stamps-again [] levels same = refl
stamps-again (stamp ∷ stamps) [] same = absurd (omega arith)
stamps-again (stamp ∷ stamps) (level ∷ levels) same = ap (λ l. stamp ∷ l) (stamps-again stamps levels (omega arith))

pub levels-again : (stamps levels : List ℕ) → length stamps ≡ length levels → levels_of (samples stamps levels) ≡ levels
levels-again [] [] same = refl
levels-again [] (level ∷ levels) same = absurd (omega arith)
levels-again (stamp ∷ stamps) [] same = absurd (omega arith)
levels-again (stamp ∷ stamps) (level ∷ levels) same = ap (λ l. level ∷ l) (levels-again stamps levels (omega arith))

pub samples-length : (stamps levels : List ℕ) → length stamps ≡ length levels
    → length (samples stamps levels) ≡ length stamps
samples-length [] levels same = refl
samples-length (stamp ∷ stamps) [] same = absurd (omega arith)
samples-length (stamp ∷ stamps) (level ∷ levels) same = ap suc (samples-length stamps levels (omega arith))

-- the sample at an index, and those after it
pub samples-drop : (stamps levels : List ℕ) (i : ℕ) → i < length stamps → length stamps ≡ length levels
    → drop i (samples stamps levels) ≡ (get_or stamps i 0, get_or levels i 0) ∷ drop (suc i) (samples stamps levels)
samples-drop [] levels i less same = absurd (omega arith)
samples-drop (stamp ∷ stamps) [] i less same = absurd (omega arith)
samples-drop (stamp ∷ stamps) (level ∷ levels) zero less same = refl
samples-drop (stamp ∷ stamps) (level ∷ levels) (suc i) less same =
    samples-drop stamps levels i (omega arith) (omega arith)
