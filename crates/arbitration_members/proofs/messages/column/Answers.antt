use Prim.Native.Nat.{ℕ}
use mathlib.Core.Path.{refl, ap, ◌∙◌}
use mathlib.Core.List.{[]}
use lib.ListN.{set}
use Rattle.laws.proofs.Loops.{gathered-more, gathered-all}
use Rattle.arbitration_rules.specs.Outcome.{sent_at}
use borrow.Author.Rules.{rules}
use Rattle.arbitration_members.proofs.messages.column.Goals as goal

pub loop-i-init : goal.loop-i-init
loop-i-init c = refl

pub loop-i-preserved : goal.loop-i-preserved
loop-i-preserved c =
    let head = c.loop-i in
    let a = c.args in
    ap (λ (sent : ℕ). set head.out head.i sent) c.sent_at.ensures
    ∙ gathered-more (sent_at a.index) _ _ _ head.i [] head.invariant (search rules) (search rules)

pub returns : goal.returns
returns c =
    let head = c.loop-i in
    gathered-all (sent_at c.args.index) _ _ _ head.i head.invariant (search rules) (search rules)
