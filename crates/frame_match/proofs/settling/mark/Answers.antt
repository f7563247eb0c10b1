-- Only a board that begins to wait is marked.
use mathlib.Core.Path.{◌≡◌, sym, ◌∙◌}
use mathlib.Core.Bool.{true, false, not, ◌&&◌}
use lib.Dec.{eqb}
use Rattle.frame_match.specs.Book.{state_of}
use Rattle.frame_match.specs.Settled.{marked}
use Rattle.frame_match.proofs.settling.mark.Goals as goal

pub returns-then-state-before : goal.returns-then-state-before
unfolding marked
returns-then-state-before c =
    let args = c.args in
    let begins : eqb args.state 1 && not (eqb (state_of args.book.now args.row) 1) ≡ true =
    rw (← c.get-before.ensures) c.if-state-before.true in
    c.set.ensures ∙ sym (rw begins)

pub returns-else-state-before : goal.returns-else-state-before
unfolding marked
returns-else-state-before c =
    let args = c.args in
    let stays : eqb args.state 1 && not (eqb (state_of args.book.now args.row) 1) ≡ false =
    rw (← c.get-before.ensures) c.if-state-before.false in
    sym (rw stays)
