use Prim.Native.Nat.{◌+◌, ◌*◌, ◌^◌, ◌<◌}
use borrow.Author.Rules.{rules, Fits-under}
use native.Mathlib.Omega.{arith}
use mir.Syntax.{w64}
use Rattle.text.proofs.Reading.{one-more, one-too-many}
use Rattle.text.proofs.Reading.{spelled_none, spelled-more, spelled-all, spelled-large}
use Rattle.text.proofs.numbers.value.Goals as goal
use Rattle.text.proofs.numbers.value.Goals.{Else-v-d}

fits : (c : Else-v-d)
    → c.loop-b.v * c.args.base
    + c.digit_wide-d.result < 2 ^ 64
fits c =
    let base-positive = c.requires in
    omega (arith, one-more _ _ _ _ c.if-v-d.false base-positive (search rules))

pub loop-b-init : goal.loop-b-init
loop-b-init c = spelled_none _ _

pub returns-then-v-d : goal.returns-then-v-d
returns-then-v-d c =
    let large = one-too-many _ _ _ _ c.if-v-d.true (search rules) in
    spelled-large _ _ _ _ _
    c.digit_wide-d.ensures
    c.loop-b.invariant
    (search rules)
    (search rules)
    (omega (arith, large))

pub overflow_mul-v : goal.overflow_mul-v
overflow_mul-v c = Fits-under w64 _ (2 ^ 64) (omega (arith, fits c)) tt

pub overflow_add-v : goal.overflow_add-v
overflow_add-v c = Fits-under w64 _ (2 ^ 64) (fits c) tt

pub loop-b-preserved : goal.loop-b-preserved
loop-b-preserved c = spelled-more _ _ _ _ _ c.digit_wide-d.ensures c.loop-b.invariant (search rules) (fits c)

pub returns : goal.returns
returns c = spelled-all _ _ _ _ c.loop-b.invariant (search rules)
