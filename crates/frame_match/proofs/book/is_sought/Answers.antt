-- The frame is looked at only where the row is what is looked for.
use Rattle.laws.proofs.Branches.{call-yes, call-no}
use Rattle.frame_match.proofs.book.is_sought.Goals as goal

pub returns-then-is_a : goal.returns-then-is_a
returns-then-is_a c = rw (call-yes _ _ c.is_a.ensures c.if-is_a.true) c.is_of.ensures

pub returns : goal.returns
returns c = rw (call-no _ _ c.is_a.ensures c.if-is_a.false)
