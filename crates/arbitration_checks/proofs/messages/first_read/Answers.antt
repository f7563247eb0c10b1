use native.Mathlib.Omega.{arith}
use mathlib.Core.Path.{◌≡◌, sym, ◌∙◌}
use lib.ListN.{length}
use Rattle.arbitration_rules.specs.Reply.{reads}
use Rattle.arbitration_checks.proofs.SearchedMessages.{searched-start, searched-more, searched-first}
use Rattle.arbitration_checks.proofs.SearchedMessages.{searched-none}
use borrow.Author.Rules.{rules}
use Rattle.arbitration_checks.proofs.messages.first_read.Goals as goal

pub loop-i-init : goal.loop-i-init
loop-i-init c = (search rules, searched-start reads _ _)

pub end_of-to-requires : goal.end_of-to-requires
end_of-to-requires c = tt

pub offset_bounds-sent-from : goal.offset_bounds-sent-from
offset_bounds-sent-from c = omega (arith, c.loop-i.invariant.1.at.within)

pub slice_bounds-reads-count : goal.slice_bounds-reads-count
slice_bounds-reads-count c = omega (arith, c.end_of-to.ensures, c.loop-i.invariant.1.at.within)

pub slice_bounds-reads-start : goal.slice_bounds-reads-start
slice_bounds-reads-start c = omega (arith, c.end_of-to.ensures, c.loop-i.invariant.1.at.within)

pub slice_bounds-reads-end : goal.slice_bounds-reads-end
slice_bounds-reads-end c = omega (arith, c.end_of-to.ensures)

pub returns-then-reads : goal.returns-then-reads
returns-then-reads c =
    let head = c.loop-i in
    searched-first reads _ _ head.i head.from _ head.invariant.1 c.loop-i-test.true c.end_of-to.ensures
    (sym c.reads.ensures ∙ c.if-reads.true)

pub loop-i-preserved : goal.loop-i-preserved
loop-i-preserved c =
    let head = c.loop-i in (
      search rules,
      searched-more reads _ _ head.i head.from _ head.invariant.1 c.loop-i-test.true c.end_of-to.ensures
          (sym c.reads.ensures ∙ c.if-reads.false),
    )

pub returns : goal.returns
returns c =
    let all : length c.args.lengths.now ≡ c.loop-i.i = omega arith in
    all ∙ searched-none reads _ _ _ c.loop-i.from c.loop-i.invariant.1 c.loop-i-test.false
