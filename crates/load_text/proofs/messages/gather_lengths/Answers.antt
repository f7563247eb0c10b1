use Prim.Native.Nat.{◌<◌, ◌≤◌}
use lib.ListN.{length}
use Rattle.arbitration_rules.specs.Limits.{max_masters}
use Rattle.text.proofs.Putting.{put-none, put-length}
use Rattle.load_text.proofs.Handing.{lengths-more, lengths-all}
use borrow.Author.Rules.{rules}
use Rattle.load_text.proofs.messages.gather_lengths.Goals as goal

pub loop-board-init : goal.loop-board-init
loop-board-init c = record { within = search rules; put = put-none _ _ _ (search rules) }

pub loop-board-preserved : goal.loop-board-preserved
loop-board-preserved c =
    let few : c.loop-board.board < max_masters = search rules in
    let less : c.loop-board.board < length c.args.silent = search rules in
    let less-lengths : c.loop-board.board < length c.args.lengths = search rules in
    lengths-more _ _ _ _ few less less-lengths c.loop-board.invariant c.put_length-next.ensures

pub shape_of-out : goal.shape_of-out
shape_of-out c = put-length _ _ c.loop-board.invariant.put

pub returns : goal.returns
returns c =
    let past : length c.args.silent ≤ c.loop-board.board = search rules in
    let past-lengths : length c.args.lengths ≤ c.loop-board.board = search rules in
    lengths-all _ _ _ _ past past-lengths c.loop-board.invariant
