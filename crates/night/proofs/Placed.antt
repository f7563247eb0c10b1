-- Modules put into a table one after the other: it stays as long, and in the end starts with them.
use Prim.Native.Nat.{ℕ, zero, suc, ◌≤◌, ◌<◌}
use native.Mathlib.Nat.{not-suc-le-zero, le_of_suc-le-suc}
use native.Mathlib.Omega.{arith}
use mathlib.Core.Path.{◌≡◌, refl, ap, ◌∙◌}
use mathlib.Core.List.{List, [], ◌∷◌, ◌++◌}
use lib.ListN.{length, get_or, set, take, drop, length-set}
use Rattle.usi.specs.declared.Usi.{Usi}
use Rattle.usi.specs.Module.{power_up}
use Rattle.night.specs.Lent.{placed}

pub placed-long : (count : ℕ) (modules table : List Usi) → length (placed count modules table) ≡ length table
placed-long zero modules table = refl
placed-long (suc count) modules table =
    length-set (placed count modules table) count (get_or modules count (power_up 0 0))
    ∙ placed-long count modules table

-- one more of a list over another
pub over-more : {A : Type 0} (list others : List A) (i : ℕ) (empty : A) → i < length list → i < length others
    → set (take i list ++ drop i others) i (get_or list i empty) ≡ take (suc i) list ++ drop (suc i) others
over-more [] others i empty less room = absurd (not-suc-le-zero less)
over-more (a ∷ list) [] i empty less room = absurd (not-suc-le-zero room)
over-more (a ∷ list) (b ∷ others) zero empty less room = refl
over-more {A} (a ∷ list) (b ∷ others) (suc i) empty less room =
    ap (λ (l : List A). a ∷ l) (over-more list others i empty (le_of_suc-le-suc less) (le_of_suc-le-suc room))

pub placed-is : (count : ℕ) (modules table : List Usi) → count ≤ length modules → count ≤ length table
    → placed count modules table ≡ take count modules ++ drop count table
placed-is zero modules table within room = refl
placed-is (suc count) modules table within room =
    ap (λ (l : List Usi). set l count (get_or modules count (power_up 0 0)))
    (placed-is count modules table (omega arith) (omega arith))
    ∙ over-more modules table count (power_up 0 0) (omega arith) (omega arith)

-- what stands for an element past the last plays no part before it
pub any-default : {A : Type 0} (list : List A) (i : ℕ) (one other : A) → i < length list
    → get_or list i one ≡ get_or list i other
any-default [] i one other less = absurd (not-suc-le-zero less)
any-default (a ∷ list) zero one other less = refl
any-default (a ∷ list) (suc i) one other less = any-default list i one other (le_of_suc-le-suc less)
