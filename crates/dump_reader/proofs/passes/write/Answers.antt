use mathlib.Core.Path.{◌≡◌, ap, ◌∙◌}
use Prim.Native.Nat.{◌^◌, ◌≤◌, ◌<◌}
use native.Mathlib.Omega.{arith}
use lib.ListN.{length}
use lib.Seq.{length-sets}
use Rattle.dump_reader.proofs.Spans.{next-after}
use Rattle.dump_reader.proofs.Folds.{stored-none, stored-long, stored-long-too, stored_more}
use Rattle.dump_reader.proofs.Folds.{stored-room, stored-room-too, last-room, last-room-too}
use Rattle.dump_reader.proofs.Folds.{stamps-all, levels-all}
use mir.Syntax.{w64}
use borrow.Author.Rules.{rules, Fits-under}
use Rattle.dump_reader.proofs.passes.write.Goals as goal

pub loop-word-init : goal.loop-word-init
loop-word-init c = rw (c.next_word-word.ensures, c.start-reader.ensures) (stored-none _ _ _)

pub put-count-requires : goal.put-count-requires
put-count-requires c =
    let head = c.loop-word in
    let text = c.args.text.now in
    let less : head.word.end < length text = omega arith in record {
      shown_in_bounds = stored-room text _ _ c.requires.text_in_bounds c.requires.text_in_bounds_2 _ _ _ _ _ head.invariant _ c.judge-next.ensures less;
      shown_in_bounds_2 = stored-room-too text _ _ c.requires.text_in_bounds c.requires.text_in_bounds_2 _ _ _ _ _ head.invariant _ c.judge-next.ensures less;
    }

pub overflow_add-word : goal.overflow_add-word
overflow_add-word c =
    let few : length c.args.text.now < 2 ^ 64 = search rules in
    Fits-under w64 _ (2 ^ 64) (omega (arith, c.loop-word-test.true, few)) tt

pub loop-word-smaller : goal.loop-word-smaller
loop-word-smaller c =
    let head = c.loop-word in
    omega (arith, next-after _ head.word c.next_word-word-in-loop-word.result c.next_word-word-in-loop-word.ensures)

pub loop-word-preserved : goal.loop-word-preserved
loop-word-preserved c =
    let head = c.loop-word in
    let text = c.args.text.now in
    let wrote = c.put-count.ensures in
    let less : head.word.end < length text = omega arith in
    rw (c.next_word-word-in-loop-word.ensures, wrote.next, wrote.stamped, wrote.stored)
    (stored_more text _ _ c.requires.text_in_bounds c.requires.text_in_bounds_2 _ _ _ _ _ head.invariant _ c.judge-next.ensures less)

pub put-requires : goal.put-requires
put-requires c =
    let head = c.loop-word in
    let text = c.args.text.now in
    let end : length text ≤ head.word.end = omega arith in record {
      shown_in_bounds = last-room text _ _ c.requires.text_in_bounds c.requires.text_in_bounds_2 _ _ _ _ _ head.invariant end;
      shown_in_bounds_2 = last-room-too text _ _ c.requires.text_in_bounds c.requires.text_in_bounds_2 _ _ _ _ _ head.invariant end;
    }

pub shape_of-stamps : goal.shape_of-stamps
shape_of-stamps c =
    let kept : length c.put.new.stamps ≡ length c.loop-word.stamps =
    ap length c.put.ensures.stamped ∙ simp length-sets in
    kept
    ∙ stored-long c.args.text.now _ _ c.requires.text_in_bounds c.requires.text_in_bounds_2 _ _ _ _ _ c.loop-word.invariant

pub shape_of-levels : goal.shape_of-levels
shape_of-levels c =
    let kept : length c.put.new.levels ≡ length c.loop-word.levels =
    ap length c.put.ensures.stored ∙ simp length-sets in
    kept
    ∙ stored-long-too c.args.text.now _ _ c.requires.text_in_bounds c.requires.text_in_bounds_2 _ _ _ _ _ c.loop-word.invariant

pub returns : goal.returns
returns c =
    let head = c.loop-word in
    let text = c.args.text.now in
    let wrote = c.put.ensures in
    let end : length text ≤ head.word.end = omega arith in record {
      stamped = wrote.stamped ∙ stamps-all text _ _ c.requires.text_in_bounds c.requires.text_in_bounds_2 _ _ _ _ _ head.invariant end;
      stored = wrote.stored ∙ levels-all text _ _ c.requires.text_in_bounds c.requires.text_in_bounds_2 _ _ _ _ _ head.invariant end;
    }
