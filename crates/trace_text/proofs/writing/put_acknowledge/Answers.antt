-- `trace_text::writing::put_acknowledge` meets its contract.
use Rattle.laws.proofs.Branches.{branches}
use Rattle.text.proofs.Putting.{puts}
use Rattle.trace_text.specs.Events.{acknowledge_text}
use Rattle.trace_text.proofs.writing.put_acknowledge.Goals as goal

pub returns-then-event-lt-NACK : goal.returns-then-event-lt-NACK
unfolding acknowledge_text
returns-then-event-lt-NACK c = search (puts, branches)

pub returns : goal.returns
unfolding acknowledge_text
returns c = search (puts, branches)
