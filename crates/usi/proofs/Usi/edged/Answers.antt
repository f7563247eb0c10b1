use Rattle.laws.proofs.Branches.{branches}
use Rattle.usi.specs.Step.{edged}
use Rattle.usi.proofs.Cases.{stays-high, rises, falls, stays-low}
use mathlib.Core.Path.{sym, ◌∙◌}
use borrow.Author.Tests.{not-false}
use Rattle.usi.proofs.Usi.edged.Goals as goal

pub returns-then-not-self : goal.returns-then-not-self
unfolding edged
returns-then-not-self c = search branches

pub returns-then-self : goal.returns-then-self
returns-then-self c =
    let seen = not-false _ c.if-not-self.false in
    c.condition_seen.ensures ∙ sym (stays-high _ _ _ seen c.if-scl.true c.if-self.true)

pub returns-then-scl : goal.returns-then-scl
returns-then-scl c =
    let seen = not-false _ c.if-not-self.false in
    c.rise_seen.ensures ∙ sym (rises _ _ _ seen c.if-scl.true c.if-self.false)

pub returns-then-self-2 : goal.returns-then-self-2
returns-then-self-2 c =
    let seen = not-false _ c.if-not-self.false in
    c.fall_seen.ensures ∙ sym (falls _ _ _ seen c.if-scl.false c.if-self-2.true)

pub returns : goal.returns
returns c =
    let seen = not-false _ c.if-not-self.false in
    sym (stays-low _ _ _ seen c.if-scl.false c.if-self-2.false)
