use native.Mathlib.Omega.{arith}
use Prim.Native.Nat.{◌<◌, ◌≤◌}
use mathlib.Core.Path.{◌∙◌}
use borrow.Author.Tests.{eq-eqb, ne_eqb}
use lib.ListN.{length}
use Rattle.laws.proofs.Search.{passed_start, passed-more, found-any, none_any}
use Rattle.arbitration_rules.specs.Reply.{is_empty}
use Rattle.arbitration_messages.proofs.Sums.{summed-more, summed-all}
use Rattle.arbitration_messages.proofs.Limited.{limited-empty, limited-long, limited-all}
use borrow.Author.Rules.{rules}
use Rattle.arbitration_messages.proofs.lengths.length_of.Goals as goal

pub loop-part-init : goal.loop-part-init
loop-part-init c = (passed_start is_empty _, search rules, search rules)

pub returns-then-part-eq0 : goal.returns-then-part-eq0
returns-then-part-eq0 c =
    let head = c.loop-part in
    let parts = c.args.parts.now in
    let more : head.part-index < length parts = omega arith in
    limited-empty parts (found-any is_empty parts head.part-index 0 head.invariant.0 more (eq-eqb _ _ c.if-part-eq0.true))

pub overflow_sub-sum : goal.overflow_sub-sum
overflow_sub-sum c = omega (arith, c.loop-part.invariant.2)

pub returns-then-part-sum : goal.returns-then-part-sum
returns-then-part-sum c =
    let head = c.loop-part in
    let parts = c.args.parts.now in
    let more : head.part-index < length parts = omega arith in
    let next = summed-more parts head.part-index head.sum head.invariant.1 more in
    limited-long parts (omega (arith, next, c.if-part-sum.true, head.invariant.2))

pub overflow_add-sum : goal.overflow_add-sum
overflow_add-sum c = omega (arith, c.loop-part.invariant.2)

pub loop-part-preserved : goal.loop-part-preserved
loop-part-preserved c =
    let head = c.loop-part in
    let parts = c.args.parts.now in
    let more : head.part-index < length parts = omega arith in (
      passed-more is_empty parts head.part-index 0 head.invariant.0 more (ne_eqb _ _ c.if-part-eq0.false),
      summed-more parts head.part-index head.sum head.invariant.1 more,
      omega (arith, c.if-part-sum.false, head.invariant.2),
    )

pub returns : goal.returns
returns c =
    let head = c.loop-part in
    let parts = c.args.parts.now in
    let done : length parts ≤ head.part-index = omega arith in
    let sum = summed-all parts head.part-index head.sum head.invariant.1 done in
    sum ∙ limited-all parts (none_any is_empty parts head.part-index head.invariant.0 done) (omega (arith, sum, head.invariant.2))
