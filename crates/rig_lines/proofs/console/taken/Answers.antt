-- `rig_lines::console::taken` meets its contract.
use Rattle.laws.proofs.Branches.{branches}
use Rattle.rig_lines.specs.Console.{marks}
use borrow.Author.Rules.{rules}
use Rattle.rig_lines.proofs.console.taken.Goals as goal

pub returns-then-b : goal.returns-then-b
unfolding marks
returns-then-b c = record { value = search branches; upper_bound = search rules }

pub returns-else-b : goal.returns-else-b
unfolding marks
returns-else-b c = record { value = search branches; upper_bound = search rules }
