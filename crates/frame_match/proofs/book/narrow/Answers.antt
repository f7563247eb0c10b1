-- A number above the largest is 0.
use borrow.Author.Tests.{lt-ltb, le-ltb}
use Rattle.frame_match.specs.Book.{kept}
use Rattle.frame_match.proofs.book.narrow.Goals as goal

pub returns-then-number-gt-LARGEST : goal.returns-then-number-gt-LARGEST
unfolding kept
returns-then-number-gt-LARGEST c = rw (lt-ltb _ _ c.if-number-gt-LARGEST.true)

pub returns : goal.returns
unfolding kept
returns c = rw (le-ltb _ _ c.if-number-gt-LARGEST.false)
