-- `dump::lines::put_stamp` meets its contract.
use Rattle.laws.proofs.Branches.{branches}
use Rattle.text.proofs.Putting.{puts}
use Rattle.dump.specs.Text.{stamp_line}
use Rattle.dump.proofs.lines.put_stamp.Goals as goal

pub returns : goal.returns
unfolding stamp_line
returns c = search (puts, branches)
