use mathlib.Core.Path.{◌≡◌, refl}
use Rattle.rig_lines.proofs.Taking.{taking-none, taking-more, taking-whole, taking-last, taking-endless}
use borrow.Author.Rules.{rules}
use native.Mathlib.Omega.{arith}
use Prim.Native.Nat.{◌+◌, ◌-◌, ◌<◌}
use Rattle.rig_lines.specs.Numbers.{largest}
use Rattle.rig_lines.proofs.input.next_line.Goals as goal

pub loop-init : goal.loop-init
loop-init g c = (search rules, search rules, taking-none _ _ _)

pub returns-in-End : goal.returns-in-End
returns-in-End g c =
    let came = c.in-End.is in
    taking-last _ _ _ c.counted-from.ensures c.loop.invariant.2 _ _ came c.next_byte.ensures
    c.judged_last-last.ensures

pub returns-then-b-eq-NEWLINE : goal.returns-then-b-eq-NEWLINE
returns-then-b-eq-NEWLINE g c =
    let came = c.in-Byte.is in
    taking-whole _ _ _ c.counted-from.ensures c.loop.invariant.2 _ _ _ came c.if-b-eq-NEWLINE.true
    c.next_byte.ensures c.judged-whole.ensures

pub loop-preserved : goal.loop-preserved
loop-preserved g c =
    let came = c.in-Byte.is in
    let some : 0 < largest - c.loop.counter = omega arith in
    let less : largest - c.loop.counter - 1 ≡ largest - (c.loop.counter + 1) = omega arith in
    let took =
    taking-more _ _ _ _ _ came c.if-b-eq-NEWLINE.false c.next_byte.ensures c.put_byte-n.ensures
    some c.loop.invariant.2 in
    (search rules, search rules, rw less at took)

pub returns : goal.returns
returns g c =
    let none : largest - c.loop.counter ≡ 0 = omega arith in
    taking-endless _ _ _ c.counted-from.ensures c.loop.invariant.2 _ none refl refl
