use Prim.Native.Nat.{◌<◌}
use native.Mathlib.Omega.{arith}
use lib.ListN.{length, get_or, length-append}
use Rattle.std.proofs.lemmas.Slice.Zip.{zip_turn, zip_end}
use Rattle.trace_gaps.proofs.Counting.{counting_more, counting-done, either-end}
use Rattle.trace_gaps.proofs.counted.Goals as goal

pub loop-stamp-preserved : goal.loop-stamp-preserved
loop-stamp-preserved c =
    let stamps = c.args.stamps.now in
    let levels = c.args.levels.now in
    let i = length c.loop-stamp.yielded in
    let turn = zip_turn stamps levels c.loop-stamp.yielded c.into_iter-stamp-iterator.result c.loop-stamp.stamp-iterator
    c.next.new.self _ (cc) (cc) c.loop-stamp.yielded_by _ c.in-Some.is c.next.ensures.steps in
    let fits : get_or stamps i 0 < 4294967296 = omega (arith, c.type_inv.stamps i) in
    rw (length-append, turn.2 0)
    (counting_more stamps levels c.args.limit c.loop-stamp.decoder c.loop-stamp.tally c.loop-stamp.last i
    c.loop-stamp.invariant _ turn.0 turn.1 (rw (turn.2 0) at c.apart.ensures) fits c.with_gap-tally.ensures
    (rw (turn.3 0) at c.step.ensures.decoder_is))

pub returns-clause-tally : goal.returns-clause-tally
returns-clause-tally c =
    let stamps = c.args.stamps.now in
    let levels = c.args.levels.now in
    let end = zip_end stamps levels c.loop-stamp.yielded c.into_iter-stamp-iterator.result c.loop-stamp.stamp-iterator
    c.next.new.self _ (cc) (cc) c.loop-stamp.yielded_by c.in-None.is c.next.ensures.steps in
    counting-done _ _ _ _ _ _ _ c.loop-stamp.invariant (either-end _ _ _ _ stamps levels end)
