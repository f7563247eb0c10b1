use Prim.Native.Nat.{suc, ◌-◌}
use native.Mathlib.Omega.{arith}
use mathlib.Core.Path.{◌≡◌, sym, ◌∙◌}
use Rattle.event_match.proofs.Places.{bit_found, bit-more}
use Rattle.event_match.proofs.parts.first_bit.Goals as goal

pub returns-then-event-position : goal.returns-then-event-position
returns-then-event-position c =
    let head = c.loop-position in
    let args = c.args in
    let next : suc (head.position - 1) ≡ head.position = omega arith in
    bit_found head.position (head.position - 1) args.event args.other next c.if-event-position.true ∙ sym head.invariant

pub loop-position-preserved : goal.loop-position-preserved
loop-position-preserved c =
    let head = c.loop-position in
    let args = c.args in
    let next : suc (head.position - 1) ≡ head.position = omega arith in
    head.invariant ∙ bit-more head.position (head.position - 1) args.event args.other next c.if-event-position.false
