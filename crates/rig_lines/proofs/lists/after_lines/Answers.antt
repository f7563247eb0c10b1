use native.Mathlib.Omega.{arith}
use Prim.Native.Nat.{ℕ, ◌+◌, ◌-◌, ◌<◌}
use mathlib.Core.Path.{◌≡◌, ap, ◌∙◌, sym}
use Rattle.rig_lines.proofs.Places.{lines-less}
use Rattle.rig_lines.specs.Lists.{after_lines}
use Rattle.rig_lines.proofs.lists.after_lines.Goals as goal

pub loop-init : goal.loop-init
loop-init c =
    let all : c.args.n ≡ c.args.n - 0 = omega arith in ap (λ (k : ℕ). after_lines k c.args.list.now) all

pub loop-preserved : goal.loop-preserved
loop-preserved c =
    let left : 0 < c.args.n - c.loop.counter = omega arith in
    let less : c.args.n - c.loop.counter - 1 ≡ c.args.n - (c.loop.counter + 1) = omega arith in
    c.loop.invariant
    ∙ lines-less (c.args.n - c.loop.counter) _ _ left c.after_line-rest.ensures
    ∙ ap (λ (k : ℕ). after_lines k c.after_line-rest.result.now) less

pub returns : goal.returns
unfolding after_lines
returns c =
    let none : c.args.n - c.loop.counter ≡ 0 = omega arith in
    sym (rw none at c.loop.invariant)
