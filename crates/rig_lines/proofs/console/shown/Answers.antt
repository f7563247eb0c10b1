-- `rig_lines::console::shown` meets its contract.
use Rattle.laws.proofs.Branches.{branches}
use Rattle.rig_lines.specs.Console.{shown}
use Rattle.rig_lines.proofs.console.shown.Goals as goal

pub returns-then-is_control : goal.returns-then-is_control
unfolding shown
returns-then-is_control c = search branches

pub returns-else-is_control : goal.returns-else-is_control
unfolding shown
returns-else-is_control c = search branches
