use native.Mathlib.Omega.{arith}
use mathlib.Core.Path.{sym, ◌∙◌}
use Rattle.arbitration_checks.proofs.SearchedMessages.{searched-start, searched-more, searched-any}
use Rattle.arbitration_checks.proofs.SearchedMessages.{searched-not}
use borrow.Author.Rules.{rules}
use Rattle.arbitration_checks.proofs.messages.any_ending_differs.Goals as goal

pub loop-length-init : goal.loop-length-init
loop-length-init c = (search rules, searched-start _ _ _)

pub end_of-to-requires : goal.end_of-to-requires
end_of-to-requires c = tt

pub offset_bounds-sent-from : goal.offset_bounds-sent-from
offset_bounds-sent-from c = omega (arith, c.loop-length.invariant.1.at.within)

pub slice_bounds-ending_differs-count : goal.slice_bounds-ending_differs-count
slice_bounds-ending_differs-count c = omega (arith, c.end_of-to.ensures, c.loop-length.invariant.1.at.within)

pub slice_bounds-ending_differs-start : goal.slice_bounds-ending_differs-start
slice_bounds-ending_differs-start c = omega (arith, c.end_of-to.ensures, c.loop-length.invariant.1.at.within)

pub slice_bounds-ending_differs-end : goal.slice_bounds-ending_differs-end
slice_bounds-ending_differs-end c = omega (arith, c.end_of-to.ensures)

pub ending_differs-requires : goal.ending_differs-requires
ending_differs-requires c = tt

pub returns-then-ending_differs : goal.returns-then-ending_differs
returns-then-ending_differs c =
    let head = c.loop-length in
    searched-any _ _ _ head.length-index head.from _ head.invariant.1 c.loop-length-test.true c.end_of-to.ensures
    (sym c.ending_differs.ensures ∙ c.if-ending_differs.true)

pub loop-length-preserved : goal.loop-length-preserved
loop-length-preserved c =
    let head = c.loop-length in (
      search rules,
      searched-more _ _ _ head.length-index head.from _ head.invariant.1 c.loop-length-test.true c.end_of-to.ensures
          (sym c.ending_differs.ensures ∙ c.if-ending_differs.false),
    )

pub returns : goal.returns
returns c = searched-not _ _ _ _ c.loop-length.from c.loop-length.invariant.1 c.loop-length-test.false
