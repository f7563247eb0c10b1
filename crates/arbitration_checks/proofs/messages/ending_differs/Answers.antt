use native.Mathlib.Omega.{arith}
use Prim.Native.Nat.{ℕ, ◌<◌}
use mathlib.Core.Path.{◌≡◌, sym, ap, ◌∙◌}
use lib.Dec.{ltb}
use lib.ListN.{length}
use Rattle.arbitration_checks.proofs.Endings.{together-start, together-more, together-end}
use Rattle.arbitration_checks.proofs.Endings.{together-other-end, together-differ, together-refused}
use Rattle.arbitration_checks.proofs.messages.ending_differs.Goals as goal

pub loop-i-init : goal.loop-i-init
loop-i-init c = together-start _ _ _

pub returns-then-i-other : goal.returns-then-i-other
returns-then-i-other c =
    let head = c.loop-i in
    together-other-end _ _ _ head.i head.invariant c.loop-i-test.true c.if-i-other.true

pub offset_bounds-other-i : goal.offset_bounds-other-i
offset_bounds-other-i c = omega (arith, c.loop-i.invariant.within-other)

pub bounds-other-i : goal.bounds-other-i
bounds-other-i c = omega (arith, c.loop-i.invariant.within-other)

pub offset_bounds-other-i-then-sent-other : goal.offset_bounds-other-i-then-sent-other
offset_bounds-other-i-then-sent-other c = omega (arith, c.loop-i.invariant.within-other)

pub bounds-other-i-then-sent-other : goal.bounds-other-i-then-sent-other
bounds-other-i-then-sent-other c = omega (arith, c.loop-i.invariant.within-other)

pub returns-then-sent-other : goal.returns-then-sent-other
returns-then-sent-other c =
    let head = c.loop-i in
    let args = c.args in
    let less : head.i < length args.other.now = omega (arith, head.invariant.within-other) in
    together-differ _ _ _ head.i head.invariant c.loop-i-test.true less c.if-sent-other.true

pub acknowledged-requires : goal.acknowledged-requires
acknowledged-requires c = tt

pub returns-then-not-acknowledged : goal.returns-then-not-acknowledged
returns-then-not-acknowledged c =
    let head = c.loop-i in
    let args = c.args in
    let less : head.i < length args.other.now = omega (arith, head.invariant.within-other) in
    together-refused _ _ _ head.i head.invariant c.loop-i-test.true less c.if-sent-other.false
    (sym c.acknowledged.ensures ∙ c.if-not-acknowledged.true)

pub loop-i-preserved : goal.loop-i-preserved
loop-i-preserved c =
    let head = c.loop-i in
    let args = c.args in
    let less : head.i < length args.other.now = omega (arith, head.invariant.within-other) in
    together-more _ _ _ head.i head.invariant c.loop-i-test.true less c.if-sent-other.false
    (sym c.acknowledged.ensures ∙ c.if-not-acknowledged.false)

pub returns : goal.returns
returns c =
    let head = c.loop-i in
    let args = c.args in
    let all : length args.message.now ≡ head.i = omega arith in
    ap (λ (k : ℕ). ltb k (length args.other.now)) all
    ∙ together-end _ _ _ head.i head.invariant c.loop-i-test.false
