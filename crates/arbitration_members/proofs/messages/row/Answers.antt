use native.Mathlib.Omega.{arith}
use Prim.Native.Nat.{◌<◌, ◌-◌, min}
use mathlib.Core.Path.{◌≡◌, refl}
use lib.ListN.{length, drop, length-drop}
use lib.Seq.{get_or-drop}
use Rattle.laws.proofs.Loops.{copied_more, copied-done}
use Rattle.arbitration_rules.specs.Limits.{max_length}
use Rattle.arbitration_members.proofs.messages.row.Goals as goal

pub loop-i-init : goal.loop-i-init
loop-i-init c = (omega arith, refl)

pub loop-i-preserved : goal.loop-i-preserved
loop-i-preserved c =
    let head = c.loop-i in
    let list = drop c.args.from c.args.sent.now in
    let here : head.i < length list =
    omega (arith, c.requires, length-drop c.args.from c.args.sent.now) in (
      omega arith,
      rw (← get_or-drop) (copied_more 256 max_length list _ head.i 0 head.invariant.1 here (omega arith)),
    )

pub returns : goal.returns
returns c =
    let head = c.loop-i in
    let size = c.args.to - c.args.from in
    let end : head.i ≡ min size max_length = omega (arith, head.invariant.0) in
    copied-done 256 max_length (drop c.args.from c.args.sent.now) _ head.i size head.invariant.1 end
    (omega (arith, c.requires, length-drop c.args.from c.args.sent.now))
