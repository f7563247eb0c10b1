-- No more bytes are carried than the message has.
use Prim.Native.Nat.{◌≤◌}
use mathlib.Core.Path.{sym}
use native.Mathlib.Omega.{arith}
use lib.ListN.{length, length-take}
use lib.Seq.{length-take-le}
use Rattle.arbitration_rules.proofs.Carried.{carried-within}
use Rattle.arbitration_checks.proofs.carrying.Goals as goal

pub slice_bounds-level_count-end : goal.slice_bounds-level_count-end
slice_bounds-level_count-end c =
    let count = c.carried_count-count.result in
    let args = c.args in
    let few : count ≤ length args.message.now =
    omega (arith, c.carried_count-count.ensures, carried-within args.message.now args.acks.now) in
    sym (length-take-le count args.message.now few)

pub level_count-levels-requires : goal.level_count-levels-requires
level_count-levels-requires c = omega (arith, length-take c.carried_count-count.result c.args.message.now, c.requires)

pub returns : goal.returns
returns c = rw (c.level_count-levels.ensures, c.carried_count-count.ensures)
