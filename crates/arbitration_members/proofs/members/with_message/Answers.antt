use native.Mathlib.Omega.{arith}
use Prim.Native.Nat.{◌<◌, ◌-◌, min}
use mathlib.Core.Path.{◌≡◌, refl, ap, ◌∙◌}
use mathlib.Core.Bool.{Bool, true, false}
use mathlib.Core.List.{List, ◌++◌}
use lib.ListN.{length, replicate, length-replicate}
use borrow.Author.Rules.{rules}
use Rattle.laws.proofs.Loops.{filled_more, drop-replicate}
use Rattle.arbitration_rules.specs.Limits.{max_masters}
use Rattle.arbitration_members.proofs.members.with_message.Goals as goal

pub loop-i-init : goal.loop-i-init
loop-i-init c = (omega arith, refl)

pub loop-i-preserved : goal.loop-i-preserved
loop-i-preserved c =
    let head = c.loop-i in
    let room : head.i < length (replicate {A = Bool} max_masters false) = omega
    (arith, length-replicate {A = Bool} max_masters false) in
    (search rules, filled_more true _ _ _ head.invariant.1 room)

pub returns : goal.returns
returns c =
    let head = c.loop-i in
    let count = c.args.count in
    let end : head.i ≡ min count max_masters = omega (arith, head.invariant.0) in
    let left : max_masters - head.i ≡ max_masters - count = omega (arith, end) in
    head.invariant.1
    ∙ ap (λ (rest : List Bool). replicate head.i true ++ rest)
    (drop-replicate false max_masters head.i (omega (arith, end)))
    ∙ rw (left, end) refl
