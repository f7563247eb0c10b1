use native.Mathlib.Omega.{arith}
use Rattle.arbitration_members.specs.Rows.{empty_row, row_of, rows_of}
use Rattle.arbitration_members.proofs.Columns.{filling-start, filling-more, filling-done}
use Rattle.arbitration_members.proofs.messages.rows.Goals as goal

pub loop-i-init : goal.loop-i-init
loop-i-init c = filling-start row_of empty_row _ _

pub end_of-to-requires : goal.end_of-to-requires
end_of-to-requires c = tt

pub row-requires : goal.row-requires
row-requires c = (omega (arith, c.end_of-to.ensures, c.loop-i.invariant.at.within), omega (arith, c.end_of-to.ensures))

pub loop-i-preserved : goal.loop-i-preserved
loop-i-preserved c =
    let head = c.loop-i in
    let a = c.args in
    filling-more row_of empty_row a.lengths.now a.sent.now _ head.i head.from head.invariant _ _ (omega arith)
    c.end_of-to.ensures c.row.ensures

pub returns : goal.returns
unfolding rows_of
returns c =
    let head = c.loop-i in
    let a = c.args in
    filling-done row_of empty_row a.lengths.now a.sent.now _ head.i head.from head.invariant (omega arith)
