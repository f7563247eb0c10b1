-- `text::output::digit_byte` meets its contract.
use Rattle.text.specs.Output.{digit_byte}
use borrow.Author.Tests.{lt-ltb, le-ltb}
use Rattle.text.proofs.output.digit_byte.Goals as goal

pub returns-then-d-lt10 : goal.returns-then-d-lt10
unfolding digit_byte
returns-then-d-lt10 c = rw (lt-ltb _ _ c.if-d-lt10.true)

pub returns-else-d-lt10 : goal.returns-else-d-lt10
unfolding digit_byte
returns-else-d-lt10 c = rw (le-ltb _ _ c.if-d-lt10.false)
