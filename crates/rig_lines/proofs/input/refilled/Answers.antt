-- `rig_lines::input::refilled` meets its contract.
use Rattle.std.proofs.Common.{rules, refl}
use Rattle.rig_lines.specs.Input.{nothing}
use Rattle.rig_lines.proofs.Taking.{read-once}
use Rattle.rig_lines.proofs.input.refilled.Goals as goal

pub returns-then-from : goal.returns-then-from
returns-then-from g c = record { fed = nothing; kept = refl }

pub returns-then-from-2 : goal.returns-then-from-2
returns-then-from-2 g c = record { fed = nothing; kept = refl }

pub returns : goal.returns
returns g c =
    read-once _ _ _ _ _ _ c.after_read.ensures c.if-from.false c.if-from-2.false c.read_once-count.ensures
    (search rules)
