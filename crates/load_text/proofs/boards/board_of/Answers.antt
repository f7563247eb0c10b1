use Prim.Native.Nat.{◌<◌, ◌≤◌}
use lib.ListN.{length}
use Rattle.load_text.proofs.Masters.{sought-start, sought-more, sought-found, sought-end}
use borrow.Author.Rules.{rules}
use native.Mathlib.Omega.{arith}
use mathlib.Core.Path.{◌≡◌, ◌∙◌}
use Rattle.load_text.proofs.boards.board_of.Goals as goal

pub loop-board-init : goal.loop-board-init
loop-board-init c = sought-start _ _

pub returns-then-silent-board : goal.returns-then-silent-board
returns-then-silent-board c =
    let inside : c.loop-board.board < length c.args.silent = search rules in
    sought-found _ _ _ _ c.loop-board.invariant inside c.if-silent-board.true

pub loop-board-preserved : goal.loop-board-preserved
loop-board-preserved c =
    let inside : c.loop-board.board < length c.args.silent = search rules in
    rw c.left_after-left.ensures (sought-more _ _ _ _ c.loop-board.invariant inside c.if-silent-board.false)

pub returns : goal.returns
returns c =
    let past : length c.args.silent ≤ c.loop-board.board = search rules in
    let last : 16 ≡ c.loop-board.board = omega arith in
    last ∙ sought-end _ _ _ _ c.loop-board.invariant past
