use Prim.Native.Nat.{ℕ, ◌<◌, ◌≤◌}
use mathlib.Core.Path.{◌≡◌, ap, sym}
use mathlib.Core.Bool.{false}
use mathlib.Core.List.{[], ◌∷◌}
use lib.ListN.{length, get_or}
use Rattle.arbitration_rules.specs.Limits.{max_masters}
use Rattle.text.proofs.Putting.{put-none, put-length, put_as}
use Rattle.load_text.specs.Messages.{unless, part_counts}
use Rattle.load_text.proofs.Handing.{lengths-more, lengths-all}
use Rattle.load_text.proofs.Begun.{counts-length}
use borrow.Author.Rules.{rules}
use Rattle.load_text.proofs.parts.gather_counts.Goals as goal

pub loop-board-init : goal.loop-board-init
loop-board-init c = record { within = search rules; put = put-none _ _ _ (search rules) }

pub loop-board-preserved : goal.loop-board-preserved
loop-board-preserved c =
    let args = c.args in
    let few : c.loop-board.board < max_masters = search rules in
    let less : c.loop-board.board < length args.silent = search rules in
    let all : length (part_counts args.rows.now) ≡ max_masters = counts-length args.rows.now in
    let less-all : c.loop-board.board < length (part_counts args.rows.now) = search rules in
    let count = sym c.count_in.ensures in
    let said = ap (λ (n : ℕ). unless (get_or args.silent c.loop-board.board false) (n ∷ [])) count in
    lengths-more _ _ _ _ few less less-all c.loop-board.invariant (put_as _ _ said c.put_length-next.ensures)

pub shape_of-out : goal.shape_of-out
shape_of-out c = put-length _ _ c.loop-board.invariant.put

pub returns : goal.returns
returns c =
    let args = c.args in
    let past : length args.silent ≤ c.loop-board.board = search rules in
    let all : length (part_counts args.rows.now) ≡ max_masters = counts-length args.rows.now in
    let past_all : length (part_counts args.rows.now) ≤ c.loop-board.board = search rules in
    lengths-all _ _ _ _ past past_all c.loop-board.invariant
