use native.Mathlib.Omega.{arith}
use Prim.Native.Nat.{ℕ, ◌<◌, ◌+◌, min}
use mathlib.Core.Path.{◌≡◌, ap, ◌∙◌}
use lib.ListN.{length}
use lib.Seq.{get_or-take, length-take-le}
use Rattle.arbitration_messages.proofs.Walk.{at-start, at_more}
use Rattle.verdict.proofs.Compared.{message-past, message-found}
use Rattle.verdict.proofs.messages.message_at.Goals as goal

pub returns-then-index-lengths : goal.returns-then-index-lengths
returns-then-index-lengths c = message-past _ _ _ c.if-index-lengths.true

pub loop-length-init : goal.loop-length-init
loop-length-init c = at-start _ _

pub loop-length-preserved : goal.loop-length-preserved
loop-length-preserved c =
    let head = c.loop-length in
    let a = c.args in
    let lengths = a.lengths.now in
    let i = head.length-index in
    let size = length-take-le a.index lengths (omega (arith, c.if-index-lengths.false)) in
    let before : i < a.index = omega (arith, c.loop-length-test.true, size) in
    let less : i < length lengths = omega (arith, before, c.if-index-lengths.false) in
    at_more _ _ i head.from _ head.invariant less
    (c.end_of-from.ensures
    ∙ ap (λ (count : ℕ). min (head.from + count) (length a.sent.now)) (get_or-take a.index lengths i 0 before))

pub returns : goal.returns
returns c =
    let head = c.loop-length in
    let a = c.args in
    let size = length-take-le a.index a.lengths.now (omega (arith, c.if-index-lengths.false)) in
    let there : head.length-index ≡ a.index = omega (arith, c.loop-length-test.false, head.auto.length-index-end, size) in
    message-found _ _ _ head.length-index head.from _ head.invariant there (omega (arith, c.if-index-lengths.false))
    c.end_of-to.ensures
