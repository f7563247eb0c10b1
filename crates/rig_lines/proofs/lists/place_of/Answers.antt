use Prim.Native.Nat.{◌+◌, ◌-◌, ◌≤◌, ◌<◌}
use native.Mathlib.Omega.{arith}
use mathlib.Core.Path.{◌≡◌, refl, sym, ◌∙◌}
use mathlib.Core.Bool.{false≢true}
use Rattle.laws.proofs.Branches.{call-yes, call-no}
use Rattle.rig_lines.proofs.Places.{stands_here, stands-later, none_left}
use borrow.Author.Rules.{rules}
use Rattle.rig_lines.proofs.lists.place_of.Goals as goal

pub loop-place-init : goal.loop-place-init
loop-place-init c = (search rules, omega arith)

pub returns-then-same : goal.returns-then-same
returns-then-same c =
    let head = c.loop-place in
    let less : head.place < 16 = omega arith in
    let left : 0 < 16 - head.place = omega (arith, less) in
    let here = stands_here (16 - head.place) _ _ _ left c.first_line.ensures
    (c.same.ensures.0 (call-yes _ _ refl c.if-same.true)) in
    omega (arith, here, head.invariant.1)

pub loop-place-preserved : goal.loop-place-preserved
loop-place-preserved c =
    let head = c.loop-place in
    let less : head.place < 16 = omega arith in
    let left : 0 < 16 - head.place = omega (arith, less) in
    let one_less : 16 - head.place - 1 ≡ 16 - (head.place + 1) = omega (arith, less) in
    let other = call-no _ _ refl c.if-same.false in
    let later = stands-later (16 - head.place) _ _ _ _ left c.first_line.ensures
    (λ is. false≢true (sym other ∙ c.same.ensures.1 is)) c.after_line-rest.ensures in
    (omega (arith, less), omega (arith, rw one_less at later, head.invariant.1))

pub returns : goal.returns
returns c =
    let head = c.loop-place in
    let past : 16 ≤ head.place = omega arith in
    let last = none_left (16 - head.place) head.rest.now c.args.word.now (omega (arith, past)) in
    omega (arith, past, last, head.invariant.0, head.invariant.1)
