-- `rig_lines::input::judged_last` meets its contract.
use Rattle.laws.proofs.Branches.{branches}
use Rattle.rig_lines.specs.Input.{judged_last}
use Rattle.rig_lines.proofs.input.judged_last.Goals as goal

pub returns-then-errno-ne0 : goal.returns-then-errno-ne0
unfolding judged_last
returns-then-errno-ne0 c = search branches

pub returns-then-n-eq0 : goal.returns-then-n-eq0
unfolding judged_last
returns-then-n-eq0 c = search branches

pub returns : goal.returns
unfolding judged_last
returns c = search branches
