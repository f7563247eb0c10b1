use mathlib.Core.Path.{◌∙◌}
use Prim.Native.Nat.{◌≤◌, ◌<◌}
use native.Mathlib.Omega.{arith}
use lib.ListN.{length}
use Rattle.dump_reader.proofs.Spans.{next-after}
use Rattle.dump_reader.proofs.Walking.{walk-within}
use Rattle.dump_reader.proofs.Folds.{counted_none, counted-more, counted-reader, counted-all}
use Rattle.dump_reader.proofs.passes.scan.Goals as goal

pub loop-word-init : goal.loop-word-init
loop-word-init c = rw (c.next_word-word.ensures, c.start-reader.ensures) (counted_none _)

pub counted-count-requires : goal.counted-count-requires
counted-count-requires c = omega (arith, c.loop-word.invariant.few)

pub loop-word-smaller : goal.loop-word-smaller
loop-word-smaller c =
    let head = c.loop-word in
    omega (arith, next-after _ head.word c.next_word-word-in-loop-word.result c.next_word-word-in-loop-word.ensures)

pub loop-word-preserved : goal.loop-word-preserved
loop-word-preserved c =
    let head = c.loop-word in
    let text = c.args.text.now in
    let less : head.word.end < length text = omega arith in
    rw (c.next_word-word-in-loop-word.ensures, c.counted-count.ensures)
    (counted-more text head.reader c.judge-next.result head.count head.word
    c.judge-next.ensures less head.invariant)

pub counted-count-requires-2 : goal.counted-count-requires-2
counted-count-requires-2 c =
    let head = c.loop-word in
    omega (arith, head.invariant.few, walk-within _ head.invariant.walk)

pub returns : goal.returns
returns c =
    let head = c.loop-word in
    let text = c.args.text.now in
    let end : length text ≤ head.word.end = omega arith in record {
      last = counted-reader text head.reader head.count head.word end head.invariant;
      number = c.counted-count-2.ensures ∙ counted-all text head.reader head.count head.word end head.invariant;
    }
