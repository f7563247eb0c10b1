-- `rig_lines::input::after_read` meets its contract.
use borrow.Author.Tests.{eq-eqb, ne_eqb}
use Rattle.rig_lines.specs.Input.{after_read}
use Rattle.rig_lines.proofs.input.after_read.Goals as goal

pub returns-then-n-eq0 : goal.returns-then-n-eq0
unfolding after_read
returns-then-n-eq0 c = rw (eq-eqb _ _ c.if-n-eq0.true)

pub returns-else-n-eq0 : goal.returns-else-n-eq0
unfolding after_read
returns-else-n-eq0 c = rw (ne_eqb _ _ c.if-n-eq0.false)
