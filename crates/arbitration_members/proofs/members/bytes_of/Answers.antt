use Prim.Native.Nat.{ℕ}
use mathlib.Core.Path.{refl, ap, ◌∙◌}
use lib.ListN.{set}
use Rattle.laws.proofs.Loops.{gathered-more, gathered-all}
use Rattle.arbitration_rules.specs.Outcome.{byte_of}
use borrow.Author.Rules.{rules}
use Rattle.arbitration_members.proofs.members.bytes_of.Goals as goal

pub loop-i-init : goal.loop-i-init
loop-i-init c = refl

pub loop-i-preserved : goal.loop-i-preserved
loop-i-preserved c =
    let head = c.loop-i in
    ap (λ (byte : ℕ). set head.out head.i byte) c.byte_of.ensures
    ∙ gathered-more byte_of _ _ _ head.i 0 head.invariant (search rules) (search rules)

pub returns : goal.returns
returns c =
    let head = c.loop-i in
    gathered-all byte_of _ _ _ head.i head.invariant (search rules) (search rules)
