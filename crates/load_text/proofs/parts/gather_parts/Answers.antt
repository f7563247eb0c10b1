use Prim.Native.Nat.{◌<◌, ◌≤◌}
use mathlib.Core.Path.{◌≡◌, ap, sym, ◌∙◌}
use mathlib.Core.Bool.{false}
use lib.ListN.{length, get_or}
use Rattle.arbitration_rules.specs.Limits.{max_masters}
use Rattle.text.proofs.Putting.{put-none, put-length, put_as}
use Rattle.load_text.specs.Messages.{unless, part_lengths, parts_in}
use Rattle.load_text.proofs.Handing.{messages-more, messages-all}
use Rattle.load_text.proofs.Begun.{parts-length, parts_at}
use borrow.Author.Rules.{rules}
use Rattle.load_text.proofs.parts.gather_parts.Goals as goal

pub loop-board-init : goal.loop-board-init
loop-board-init c = record { within = search rules; put = put-none _ _ _ (search rules) }

pub loop-board-preserved : goal.loop-board-preserved
loop-board-preserved c =
    let args = c.args in
    let few : c.loop-board.board < max_masters = search rules in
    let less : c.loop-board.board < length args.silent = search rules in
    let all : length (parts_in args.rows.now) ≡ max_masters = parts-length args.rows.now in
    let less-all : c.loop-board.board < length (parts_in args.rows.now) = search rules in
    let parts = ap part_lengths c.row_in.ensures.result_value
    ∙ parts_at args.rows.now c.loop-board.board in
    let said = ap (unless (get_or args.silent c.loop-board.board false)) (sym parts) in
    messages-more _ _ _ _ few less less-all c.loop-board.invariant (put_as _ _ said c.put_parts-next.ensures)

pub shape_of-out : goal.shape_of-out
shape_of-out c = put-length _ _ c.loop-board.invariant.put

pub returns : goal.returns
returns c =
    let args = c.args in
    let past : length args.silent ≤ c.loop-board.board = search rules in
    let all : length (parts_in args.rows.now) ≡ max_masters = parts-length args.rows.now in
    let past_all : length (parts_in args.rows.now) ≤ c.loop-board.board = search rules in
    messages-all _ _ _ _ past past_all c.loop-board.invariant
