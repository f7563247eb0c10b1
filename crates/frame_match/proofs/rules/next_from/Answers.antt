-- Without such a load there is none after it.
use borrow.Author.Tests.{lt-ltb, le-ltb}
use Rattle.frame_match.specs.Rules.{load_after}
use Rattle.frame_match.proofs.rules.next_from.Goals as goal

pub returns-then-load-rows : goal.returns-then-load-rows
unfolding load_after
returns-then-load-rows c = rw (le-ltb _ _ c.if-load-rows.true)

pub returns : goal.returns
unfolding load_after
returns c = rw (lt-ltb _ _ c.if-load-rows.false) c.next_load.ensures
