use native.Mathlib.Omega.{arith}
use Prim.Native.Nat.{◌<◌}
use mathlib.Core.Path.{sym, ap, ◌∙◌}
use borrow.Author.Tests.{not-true, not-false}
use lib.ListN.{length}
use Rattle.arbitration_checks.specs.declared.order.Compared.{Compared}
use Rattle.arbitration_checks.proofs.LeastMessage.{no-message, leading-start, leading-stays}
use Rattle.arbitration_checks.proofs.LeastMessage.{leading-yields, leading-done}
use borrow.Author.Rules.{rules}
use Rattle.arbitration_checks.proofs.order.locate_least.Goals as goal
use Rattle.arbitration_checks.proofs.order.locate_least.Goals.{then-not-compared, else-not-compared}

pub returns-then-lengths-eq0 : goal.returns-then-lengths-eq0
returns-then-lengths-eq0 c = no-message _ _ c.if-lengths-eq0.true

pub end_of-from-requires : goal.end_of-from-requires
end_of-from-requires c = tt

pub loop-i-init : goal.loop-i-init
loop-i-init c =
    let some : 0 < length c.args.lengths.now = omega (arith, c.if-lengths-eq0.false) in
    (omega arith, leading-start _ _ _ some c.end_of-from.ensures)

pub end_of-to-requires : goal.end_of-to-requires
end_of-to-requires c = tt

pub offset_bounds-sent-best_from : goal.offset_bounds-sent-best_from
offset_bounds-sent-best_from c =
    let leading = c.loop-i.invariant.1 in
    omega (arith, leading.ordered-so, leading.inside)

pub slice_bounds-compare-count : goal.slice_bounds-compare-count
slice_bounds-compare-count c = c.loop-i.invariant.1.ordered-so

pub slice_bounds-compare-start : goal.slice_bounds-compare-start
slice_bounds-compare-start c = c.loop-i.invariant.1.ordered-so

pub slice_bounds-compare-end : goal.slice_bounds-compare-end
slice_bounds-compare-end c = c.loop-i.invariant.1.inside

pub offset_bounds-sent-from : goal.offset_bounds-sent-from
offset_bounds-sent-from c = omega (arith, c.loop-i.invariant.1.at.within)

pub slice_bounds-compare-count-in-loop-i : goal.slice_bounds-compare-count-in-loop-i
slice_bounds-compare-count-in-loop-i c = omega (arith, c.end_of-to.ensures, c.loop-i.invariant.1.at.within)

pub slice_bounds-compare-start-in-loop-i : goal.slice_bounds-compare-start-in-loop-i
slice_bounds-compare-start-in-loop-i c = omega (arith, c.end_of-to.ensures, c.loop-i.invariant.1.at.within)

pub slice_bounds-compare-end-in-loop-i : goal.slice_bounds-compare-end-in-loop-i
slice_bounds-compare-end-in-loop-i c = omega (arith, c.end_of-to.ensures)

pub loop-i-preserved : goal.loop-i-preserved
loop-i-preserved c =
    let head = c.loop-i in
    let precedes = ap (λ (r : Compared). r.precedes) c.compare-compared.ensures in
    let counts = ap (λ (r : Compared). r.comparisons) c.compare-compared.ensures in (
      search rules,
      elim c.if-not-compared.branch [
        | then-not-compared w ↦
            rw (w.index-is, w.best_from-is, w.best_to-is, counts)
            (leading-yields _ _ head.from head.index head.best_from head.best_to head.comparisons
            head.i _ head.invariant.1
            c.loop-i-test.true c.end_of-to.ensures (sym precedes ∙ not-true c.compare-compared.result.precedes w.if-not-compared.true))
        | else-not-compared w ↦
            rw (w.index-is, w.best_from-is, w.best_to-is, counts)
            (leading-stays _ _ head.from head.index head.best_from head.best_to head.comparisons
            head.i _ head.invariant.1
            c.loop-i-test.true c.end_of-to.ensures (sym precedes ∙ not-false c.compare-compared.result.precedes w.if-not-compared.false))
      ],
    )

pub returns : goal.returns
returns c = leading-done _ _ _ _ _ _ _ _ c.loop-i.invariant.1 c.loop-i.invariant.0 c.loop-i-test.false
