use mathlib.Core.Path.{◌≡◌}
use native.Mathlib.Omega.{arith}
use Prim.Native.Nat.{◌<◌}
use Rattle.arbitration_rules.specs.Limits.{max_masters}
use Rattle.arbitration.proofs.PassLaws.{after_none, after_more, after-all}
use Rattle.arbitration.proofs.table.step_each.Goals as goal

pub loop-i-init : goal.loop-i-init
loop-i-init g c = λ pass makes. after_none pass _ _ _ c.unseen-seen.ensures

pub loop-i-preserved : goal.loop-i-preserved
loop-i-preserved g c = λ pass makes.
    let less : c.loop-i.i < c.args.count = omega arith in
    let few : c.loop-i.i < max_masters = omega (arith, c.requires.few.0) in
    after_more pass _ _ (c.loop-i.invariant pass makes) less c.requires.few.0 c.requires.few.1 _ _ _
    (makes.applies _ _ _ few c.step-usi.ensures) c.noted-seen.ensures

pub returns : goal.returns
returns g c = λ pass makes.
    let all : c.loop-i.i ≡ c.args.count = omega arith in
    after-all pass _ _ (c.loop-i.invariant pass makes) all
