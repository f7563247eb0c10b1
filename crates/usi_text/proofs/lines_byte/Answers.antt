-- `usi_text::lines_byte` meets its contract.
use Rattle.usi_text.proofs.lines_byte.Goals as goal

pub returns-then-sda : goal.returns-then-sda
returns-then-sda c = rw (c.if-scl.true, c.if-sda.true)

pub returns-else-sda : goal.returns-else-sda
returns-else-sda c = rw (c.if-scl.true, c.if-sda.false)

pub returns-then-sda-2 : goal.returns-then-sda-2
returns-then-sda-2 c = rw (c.if-scl.false, c.if-sda-2.true)

pub returns-else-sda-2 : goal.returns-else-sda-2
returns-else-sda-2 c = rw (c.if-scl.false, c.if-sda-2.false)
