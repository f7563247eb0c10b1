-- `rig_lines::options::is_option` meets its contract.
use Rattle.laws.proofs.Branches.{branches}
use Rattle.rig_lines.proofs.options.is_option.Goals as goal

pub returns-then-word-lt2 : goal.returns-then-word-lt2
returns-then-word-lt2 c = search branches

pub returns : goal.returns
returns c = search branches
