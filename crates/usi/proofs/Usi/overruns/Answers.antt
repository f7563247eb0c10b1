-- A divider above 1 waits; else the rule on the module's fields.
use borrow.Author.Tests.{ne_eqb}
use Rattle.usi.proofs.Usi.overruns.Goals as goal

pub returns-then-divider-ne0 : goal.returns-then-divider-ne0
returns-then-divider-ne0 c = rw (ne_eqb _ _ (rw c.divider.ensures at c.if-divider-ne0.true))

pub returns : goal.returns
returns c = rw (c.overruns.ensures, c.clocks-clocking.ensures)
