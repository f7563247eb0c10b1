use Rattle.catalogue.proofs.Sums.{left-start, left-more, left-short, left-done}
use Rattle.catalogue.proofs.lists.sum_to.Goals as goal

pub loop-length-init : goal.loop-length-init
loop-length-init c = left-start _ _

pub returns-then-left-count : goal.returns-then-left-count
returns-then-left-count c =
    let head = c.loop-length in
    let args = c.args in
    left-short args.lengths.now args.size head.left head.length-index head.invariant
    c.loop-length-test.true c.if-left-count.true

pub loop-length-preserved : goal.loop-length-preserved
loop-length-preserved c =
    let head = c.loop-length in
    let args = c.args in
    left-more args.lengths.now args.size head.left head.length-index head.invariant
    c.loop-length-test.true c.if-left-count.false

pub returns : goal.returns
returns c =
    let head = c.loop-length in
    left-done _ _ _ _ head.invariant c.loop-length-test.false
