use Prim.Native.Nat.{◌<◌, ◌≤◌, min}
use lib.ListN.{length}
use native.Mathlib.Omega.{arith}
use Rattle.arbitration_rules.specs.Limits.{max_masters}
use Rattle.load_text.proofs.Masters.{counted_start, counted-more, counted-done}
use borrow.Author.Rules.{rules}
use Rattle.load_text.proofs.boards.master_of.Goals as goal

pub loop-i-init : goal.loop-i-init
loop-i-init c = counted_start _ _

pub loop-i-preserved : goal.loop-i-preserved
loop-i-preserved c =
    let less : c.loop-i.i < length c.args.silent = omega (arith, c.loop-i-test.true, c.min-i-end.ensures) in
    let before : c.loop-i.i < c.args.board = omega (arith, c.loop-i-test.true, c.min-i-end.ensures) in
    counted-more _ _ _ _ _ c.loop-i.invariant less before c.count-master.ensures.value c.count-master.ensures.upper_bound

pub returns : goal.returns
returns c =
    let past : min max_masters c.args.board ≤ c.loop-i.i = omega (arith, c.loop-i-test.false, c.min-i-end.ensures) in
    counted-done _ _ _ _ max_masters c.loop-i.invariant (search rules) past
