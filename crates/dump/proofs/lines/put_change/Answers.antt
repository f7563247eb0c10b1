-- `dump::lines::put_change` meets its contract.
use Rattle.laws.proofs.Branches.{branches}
use Rattle.text.proofs.Putting.{puts, put-none}
use Rattle.dump.specs.Text.{change_line}
use Rattle.dump.proofs.lines.put_change.Goals as goal

pub returns-then-high-was : goal.returns-then-high-was
unfolding change_line
returns-then-high-was c = rw c.if-high-was.true (put-none _ _ _ c.min.ensures)

pub returns : goal.returns
unfolding change_line
returns c = search (puts, branches)
