use Prim.Native.Nat.{◌<◌, ◌≤◌}
use mathlib.Core.Path.{◌≡◌, ap, sym}
use mathlib.Core.Bool.{false}
use lib.ListN.{length, get_or}
use Rattle.arbitration_rules.specs.Limits.{max_masters}
use Rattle.text.proofs.Putting.{put-none, put-length, put_as}
use Rattle.load_text.specs.Messages.{messages_in, unless}
use Rattle.load_text.proofs.Handing.{messages-more, messages-all, messages-length}
use borrow.Author.Rules.{rules}
use Rattle.load_text.proofs.messages.gather.Goals as goal

pub loop-board-init : goal.loop-board-init
loop-board-init c = record { within = search rules; put = put-none _ _ _ (search rules) }

pub loop-board-preserved : goal.loop-board-preserved
loop-board-preserved c =
    let args = c.args in
    let few : c.loop-board.board < max_masters = search rules in
    let less : c.loop-board.board < length args.silent = search rules in
    let all : length (messages_in args.rows.now args.lengths) ≡ length args.lengths =
    messages-length args.lengths args.rows.now in
    let less-messages : c.loop-board.board < length (messages_in args.rows.now args.lengths) = search rules in
    let said = sym c.message_in.ensures in
    messages-more _ _ _ _ few less less-messages c.loop-board.invariant
    (put_as _ _ (ap (unless (get_or args.silent c.loop-board.board false)) said)
    c.put_message-next.ensures)

pub shape_of-bytes : goal.shape_of-bytes
shape_of-bytes c = put-length _ _ c.loop-board.invariant.put

pub returns : goal.returns
returns c =
    let args = c.args in
    let past : length args.silent ≤ c.loop-board.board = search rules in
    let all : length (messages_in args.rows.now args.lengths) ≡ length args.lengths =
    messages-length args.lengths args.rows.now in
    let past-messages : length (messages_in args.rows.now args.lengths) ≤ c.loop-board.board = search rules in
    messages-all _ _ _ _ past past-messages c.loop-board.invariant
