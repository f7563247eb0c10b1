use native.Mathlib.Omega.{arith}
use mathlib.Core.Path.{sym, ◌∙◌}
use mathlib.Core.Bool.{Bool}
use mathlib.Core.List.{List, []}
use Prim.Native.Nat.{ℕ}
use Rattle.laws.specs.Search.{any}
use Rattle.arbitration_rules.specs.Outcome.{ending_differs}
use Rattle.arbitration_rules.specs.Reply.{cut}
use Rattle.arbitration_checks.proofs.SearchedMessages.{searched-start, searched-more, searched-any}
use Rattle.arbitration_checks.proofs.SearchedMessages.{searched-not}
use Rattle.night.proofs.refusals.end_apart.Goals as goal

abbrev differs : List ℕ → List ℕ → List ℕ → Bool
differs lengths sent message = any (ending_differs [] message) (cut lengths sent)

pub loop-length-init : goal.loop-length-init
loop-length-init c = searched-start _ _ _

pub end_of-to-requires : goal.end_of-to-requires
end_of-to-requires c = tt

pub offset_bounds-sent-from : goal.offset_bounds-sent-from
offset_bounds-sent-from c = omega (arith, c.loop-length.invariant.at.within)

pub slice_bounds-any_ending_differs-count : goal.slice_bounds-any_ending_differs-count
slice_bounds-any_ending_differs-count c = omega (arith, c.end_of-to.ensures, c.loop-length.invariant.at.within)

pub slice_bounds-any_ending_differs-start : goal.slice_bounds-any_ending_differs-start
slice_bounds-any_ending_differs-start c = omega (arith, c.end_of-to.ensures, c.loop-length.invariant.at.within)

pub slice_bounds-any_ending_differs-end : goal.slice_bounds-any_ending_differs-end
slice_bounds-any_ending_differs-end c = omega (arith, c.end_of-to.ensures)

pub any_ending_differs-requires : goal.any_ending_differs-requires
any_ending_differs-requires c = tt

pub returns-then-any_ending_differs : goal.returns-then-any_ending_differs
returns-then-any_ending_differs c =
    let head = c.loop-length in
    searched-any _ _ _ head.length-index head.from _ head.invariant (omega arith) c.end_of-to.ensures
    (sym c.any_ending_differs.ensures ∙ c.if-any_ending_differs.true)

pub loop-length-preserved : goal.loop-length-preserved
loop-length-preserved c =
    let head = c.loop-length in
    searched-more _ _ _ head.length-index head.from _ head.invariant (omega arith) c.end_of-to.ensures
    (sym c.any_ending_differs.ensures ∙ c.if-any_ending_differs.false)

pub returns : goal.returns
returns c = searched-not _ _ _ _ c.loop-length.from c.loop-length.invariant (omega arith)
