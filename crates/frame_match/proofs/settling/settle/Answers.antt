-- The boards of the load follow it.
use borrow.Author.Tests.{lt-ltb, le-ltb}
use Rattle.frame_match.specs.Settled.{settled}
use Rattle.frame_match.proofs.settling.settle.Goals as goal

pub returns-then-load-rows : goal.returns-then-load-rows
unfolding settled
returns-then-load-rows c = rw (lt-ltb _ _ c.if-load-rows.true) (cc)

pub returns-else-load-rows : goal.returns-else-load-rows
unfolding settled
returns-else-load-rows c = rw (le-ltb _ _ c.if-load-rows.false)
