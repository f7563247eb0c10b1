use native.Mathlib.Omega.{arith}
use mathlib.Core.Path.{◌≡◌}
use Prim.Native.Nat.{◌+◌, ◌-◌, ◌<◌}
use Rattle.text.proofs.Putting.{putting-none, putting-length}
use Rattle.rig_lines.proofs.Forms.{spaces-more, spaces-done}
use Rattle.rig_lines.proofs.console.put_spaces.Goals as goal

pub loop-init : goal.loop-init
loop-init c =
    let all : c.args.n - 0 ≡ c.args.n = omega arith in rw all (putting-none _ _ _ _ c.min-next.ensures)

pub loop-preserved : goal.loop-preserved
loop-preserved c =
    let some : 0 < c.args.n - c.loop.counter = omega arith in
    let less : c.args.n - c.loop.counter - 1 ≡ c.args.n - (c.loop.counter + 1) = omega arith in
    rw less at (spaces-more _ _ c.args.n _ some c.loop.invariant c.put_byte-next.ensures)

pub shape_of-page : goal.shape_of-page
shape_of-page c = putting-length c.loop.invariant

pub returns : goal.returns
returns c =
    let none : c.args.n - c.loop.counter ≡ 0 = omega arith in
    spaces-done _ _ c.args.n _ none c.loop.invariant
