use native.Mathlib.Omega.{arith}
use Prim.Native.Nat.{min}
use mathlib.Core.Path.{◌≡◌, refl}
use lib.ListN.{length}
use lib.Seq.{take_all}
use borrow.Author.Rules.{rules}
use Rattle.laws.proofs.Loops.{copied_more, copied-done}
use Rattle.arbitration_rules.specs.Limits.{max_masters}
use Rattle.arbitration_members.proofs.members.sizes_of.Goals as goal

pub loop-i-init : goal.loop-i-init
loop-i-init c = (omega arith, refl)

pub loop-i-preserved : goal.loop-i-preserved
loop-i-preserved c =
    let head = c.loop-i in
    let a = c.args in
    (search rules, copied_more 0 max_masters a.lengths.now _ head.i 0 head.invariant.1 (omega arith) (omega arith))

pub returns : goal.returns
returns c =
    let head = c.loop-i in
    let a = c.args in
    let size = length a.lengths.now in
    let end : head.i ≡ min size max_masters = omega (arith, head.invariant.0) in
    rw (take_all size a.lengths.now (omega arith)) at
    (copied-done 0 max_masters a.lengths.now _ head.i size head.invariant.1 end (omega arith))
