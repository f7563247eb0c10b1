-- `rig_lines::files::put_reason` meets its contract.
use Rattle.text.proofs.Putting.{puts}
use Rattle.laws.proofs.Branches.{branches}
use Rattle.rig_lines.specs.Opening.{reason_text}
use Rattle.rig_lines.proofs.files.put_reason.Goals as goal

pub returns-in-2 : goal.returns-in-2
unfolding reason_text
returns-in-2 c = search (puts, branches)

pub returns-in-13 : goal.returns-in-13
unfolding reason_text
returns-in-13 c = search (puts, branches)

pub returns-in-21 : goal.returns-in-21
unfolding reason_text
returns-in-21 c = search (puts, branches)

pub returns-in-36 : goal.returns-in-36
unfolding reason_text
returns-in-36 c = search (puts, branches)

pub returns-in-9 : goal.returns-in-9
unfolding reason_text
returns-in-9 c = search (puts, branches) depth 9

pub returns-in_default : goal.returns-in_default
unfolding reason_text
returns-in_default c = search (puts, branches) depth 9
