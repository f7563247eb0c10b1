-- `rig_lines::numbers::more` meets its contract: the sum stops at the largest number.
use native.Mathlib.Omega.{arith}
use borrow.Author.Rules.{rules}
use borrow.Author.Tests.{ltb-true, ltb-false}
use mathlib.Core.Path.{◌≡◌, refl}
use mathlib.Core.Bool.{Bool, true, false, cond}
use Prim.Native.Nat.{ℕ, ◌+◌, ◌≤◌, min}
use lib.Dec.{ltb}
use Rattle.rig_lines.specs.Numbers.{largest, one_more}
use Rattle.rig_lines.proofs.numbers.more.Goals as goal

at-most : (n r : ℕ) → n ≤ largest → r ≡ min (n + 1) largest → r ≡ one_more n
unfolding one_more
at-most n r small is = go (ltb n largest) refl
  where
    go : (less : Bool) → ltb n largest ≡ less → r ≡ cond less (n + 1) n
    go true so = omega (arith, is, ltb-true n largest so)
    go false so = omega (arith, is, small, ltb-false n largest so)

pub returns : goal.returns
returns c = at-most _ _ (search rules) c.saturating_add.ensures
