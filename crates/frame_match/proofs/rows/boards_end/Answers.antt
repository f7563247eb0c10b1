-- Without such a load the boards end with the rows.
use borrow.Author.Tests.{lt-ltb, le-ltb}
use Rattle.frame_match.specs.Rows.{boards_end}
use Rattle.frame_match.proofs.rows.boards_end.Goals as goal

pub returns-then-load-rows : goal.returns-then-load-rows
unfolding boards_end
returns-then-load-rows c = rw (le-ltb _ _ c.if-load-rows.true)

pub returns : goal.returns
unfolding boards_end
returns c = rw (lt-ltb _ _ c.if-load-rows.false) c.first_row.ensures
