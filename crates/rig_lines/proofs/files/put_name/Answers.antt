-- `rig_lines::files::put_name` meets its contract.
use Rattle.std.proofs.Common.{[]}
use Rattle.text.proofs.Putting.{puts, put_second}
use borrow.Author.Tests.{ne_eqb}
use Rattle.laws.proofs.Branches.{branches}
use Rattle.rig_lines.specs.Opening.{name_text}
use Rattle.rig_lines.proofs.files.put_name.Goals as goal

pub returns-then-argument-eq0 : goal.returns-then-argument-eq0
unfolding name_text
returns-then-argument-eq0 g c = record { word = []; put = search (puts, branches) }

pub returns : goal.returns
unfolding name_text
returns g c =
    record { word = _; put = put_second _ _ _ (ne_eqb _ _ c.if-argument-eq0.false) c.put_shown.ensures }
