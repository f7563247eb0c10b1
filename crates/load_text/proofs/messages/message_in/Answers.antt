-- `load_text::messages::message_in` meets its contract.
use Prim.Native.Nat.{◌<◌, ◌≤◌}
use lib.ListN.{length}
use Rattle.load_text.proofs.Handing.{message-none, message-cut}
use borrow.Author.Rules.{rules}
use Rattle.load_text.proofs.messages.message_in.Goals as goal

pub returns-then-board-ge-MAX_MASTERS : goal.returns-then-board-ge-MAX_MASTERS
returns-then-board-ge-MAX_MASTERS c =
    let past : length c.args.lengths ≤ c.args.board = search rules in
    message-none c.args.lengths c.args.rows.now c.args.board past

pub returns : goal.returns
returns c =
    let less : c.args.board < length c.args.lengths = search rules in
    message-cut c.args.lengths c.args.rows.now _ _ _ less
    c.lent-start.ensures.value c.lent-end.ensures.value
