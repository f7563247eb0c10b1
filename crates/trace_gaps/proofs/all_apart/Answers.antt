use mathlib.Core.Path.{refl, sym, ◌∙◌}
use Rattle.trace_gaps.proofs.Alike.{apart_more, apart_other, apart-all}
use Rattle.trace_gaps.proofs.all_apart.Goals as goal

pub loop-stamp-init : goal.loop-stamp-init
loop-stamp-init c = refl

pub returns-then-apart-gap : goal.returns-then-apart-gap
returns-then-apart-gap c = sym (c.loop-stamp.invariant ∙ apart_other _ _ _ _ c.loop-stamp-test.true
    (λ e. c.if-apart-gap.true (c.apart.ensures ∙ e)))

pub loop-stamp-preserved : goal.loop-stamp-preserved
loop-stamp-preserved c = c.loop-stamp.invariant ∙ apart_more _ _ _ _ c.loop-stamp-test.true
    (sym c.apart.ensures ∙ c.if-apart-gap.false)

pub returns : goal.returns
returns c = sym (c.loop-stamp.invariant ∙ apart-all _ _ _ _ c.loop-stamp-test.false)
