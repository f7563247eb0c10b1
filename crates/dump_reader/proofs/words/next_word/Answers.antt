-- `dump_reader::words::next_word` meets its contract.
use Prim.Native.Nat.{◌+◌, ◌^◌, ◌<◌}
use borrow.Author.Rules.{Fits-under}
use mir.Syntax.{w64}
use Rattle.dump_reader.proofs.Spans.{run_fits}
use borrow.Author.Rules.{rules}
use Rattle.dump_reader.proofs.words.next_word.Goals as goal

pub overflow_add-start : goal.overflow_add-start
overflow_add-start c = Fits-under w64 _ (2 ^ 64)
    (run_fits (2 ^ 64) c.args.from _ c.args.text.now _ c.tail.ensures
    c.run_length.ensures.upper_bound (search rules) (search rules)) tt

pub overflow_add-result : goal.overflow_add-result
overflow_add-result c =
    let small : c.args.from + c.run_length.result < 2 ^ 64 =
    run_fits (2 ^ 64) c.args.from _ c.args.text.now _ c.tail.ensures
    c.run_length.ensures.upper_bound (search rules) (search rules) in
    Fits-under w64 _ (2 ^ 64)
    (run_fits (2 ^ 64) (c.args.from + c.run_length.result) _ c.args.text.now _
    c.tail-2.ensures
    c.run_length-2.ensures.upper_bound small (search rules)) tt

pub returns : goal.returns
returns c = rw (c.run_length-2.ensures.value, c.tail-2.ensures, c.run_length.ensures.value, c.tail.ensures)
