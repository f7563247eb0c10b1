use mathlib.Core.Path.{◌≡◌, ap, ◌∙◌}
use Prim.Native.Nat.{ℕ, ◌≤◌, ◌<◌}
use native.Mathlib.Omega.{arith}
use lib.ListN.{length, length-replicate, replicate, take, drop}
use borrow.Author.Rules.{rules}
use Rattle.laws.proofs.Buffer.{writing-none}
use Rattle.arbitration_rules.specs.Limits.{max_masters}
use Rattle.arbitration_messages.specs.Marks.{max_sent}
use Rattle.night.proofs.Gathered.{gathering-room, gathering-waits, gathering-passed, gathering-done}
use Rattle.night.proofs.waiting.joined.Goals as goal
use Rattle.night.proofs.waiting.joined.Goals.{then-rounds-i-eq0, else-rounds-i-eq0}

pub loop-i-init : goal.loop-i-init
loop-i-init g c = writing-none _ _

pub put-requires : goal.put-requires
put-requires g c =
    let enough : length c.args.list.now ≤ length (replicate max_sent c.args.blank) = rw length-replicate c.requires.1 in
    let rounds-long : length c.args.rounds ≡ max_masters = search rules in
    let known : c.loop-i.i < length c.args.rounds = omega arith in
    let rest = c.loop-i.rest.now in
    gathering-room _ _ _ _ enough _ _ rest _ c.loop-i.invariant c.loop-i-test.true known _ _
    (c.split_at.ensures.front ∙ ap (λ (k : ℕ). take k rest) c.min.ensures)
    (c.split_at.ensures.back ∙ ap (λ (k : ℕ). drop k rest) c.min.ensures)
    c.if-rounds-i-eq0.true

pub loop-i-preserved : goal.loop-i-preserved
loop-i-preserved g c =
    let enough : length c.args.list.now ≤ length (replicate max_sent c.args.blank) = rw length-replicate c.requires.1 in
    let rounds-long : length c.args.rounds ≡ max_masters = search rules in
    let known : c.loop-i.i < length c.args.rounds = omega arith in
    let rest = c.loop-i.rest.now in
    let own-is = c.split_at.ensures.front ∙ ap (λ (k : ℕ). take k rest) c.min.ensures in
    let others-are = c.split_at.ensures.back ∙ ap (λ (k : ℕ). drop k rest) c.min.ensures in
    elim c.if-rounds-i-eq0.branch [
      | then-rounds-i-eq0 w ↦
          rw (w.out-is, w.size-is, w.rest-is)
          (gathering-waits _ _ _ _ enough _ _ rest _ c.loop-i.invariant c.loop-i-test.true known _ _ own-is others-are
          w.if-rounds-i-eq0.true _ w.put.ensures)
      | else-rounds-i-eq0 w ↦
          rw (w.out-is, w.size-is, w.rest-is)
          (gathering-passed _ _ _ _ enough _ _ rest _ c.loop-i.invariant c.loop-i-test.true known _ _ own-is others-are
          w.if-rounds-i-eq0.false)
    ]

pub returns : goal.returns
returns g c =
    let enough : length c.args.list.now ≤ length (replicate max_sent c.args.blank) = rw length-replicate c.requires.1 in
    gathering-done _ _ _ _ enough _ _ _ _ c.loop-i.invariant c.loop-i-test.false
