-- `rig_lines::lists::line_of` meets its contract.
use Rattle.rig_lines.proofs.lists.line_of.Goals as goal

pub returns : goal.returns
returns c = rw (c.first_line.ensures, c.after_lines.ensures)
