-- `trace_text::writing::put_direction` meets its contract.
use Rattle.laws.proofs.Branches.{branches}
use Rattle.text.proofs.Putting.{puts}
use Rattle.trace_text.specs.Events.{direction_text}
use Rattle.trace_text.proofs.writing.put_direction.Goals as goal

pub returns-then-not-addressed : goal.returns-then-not-addressed
unfolding direction_text
returns-then-not-addressed c = search (puts, branches)

pub returns-then-byte-eq1 : goal.returns-then-byte-eq1
unfolding direction_text
returns-then-byte-eq1 c = search (puts, branches)

pub returns : goal.returns
unfolding direction_text
returns c = search (puts, branches)
