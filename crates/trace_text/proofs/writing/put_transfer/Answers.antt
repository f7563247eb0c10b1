-- `trace_text::writing::put_transfer` meets its contract.
use Rattle.laws.proofs.Branches.{branches}
use Rattle.text.proofs.Putting.{puts}
use Rattle.trace_text.specs.Events.{byte_text}
use Rattle.trace_text.proofs.writing.put_transfer.Goals as goal

pub returns : goal.returns
unfolding byte_text
returns c = search (puts, branches)
