-- `trace_text::writing::show` meets its contract.
use Rattle.laws.proofs.Branches.{branches}
use Rattle.text.proofs.Putting.{puts}
use Rattle.trace_text.specs.Events.{event_text}
use Rattle.trace_text.proofs.writing.show.Goals as goal

pub returns-in-512 : goal.returns-in-512
unfolding event_text
returns-in-512 c = search (puts, branches) depth 9

pub returns-in-513 : goal.returns-in-513
unfolding event_text
returns-in-513 c = search (puts, branches) depth 9

pub returns-in-514 : goal.returns-in-514
unfolding event_text
returns-in-514 c = search (puts, branches) depth 9

pub returns-in-515 : goal.returns-in-515
unfolding event_text
returns-in-515 c = search (puts, branches) depth 9

pub returns-in_default : goal.returns-in_default
unfolding event_text
returns-in_default c = search (puts, branches) depth 9
