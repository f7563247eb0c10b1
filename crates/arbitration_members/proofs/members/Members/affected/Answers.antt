-- Judged, settled, or as they were.
use Rattle.arbitration_members.specs.Members.{judged}
use Prim.Native.Nat.{ℕ}
use mathlib.Core.Path.{ap, ◌∙◌}
use Rattle.arbitration_members.proofs.members.Members.affected.Goals as goal

pub returns-in-Bit : goal.returns-in-Bit
returns-in-Bit c =
    let a = c.args in
    rw c.in-Bit.is
    (c.judged.ensures ∙ ap (λ (position : ℕ). judged position a.al a.self) c.position_of-position.ensures)

pub returns-in-Settle : goal.returns-in-Settle
returns-in-Settle c = rw c.in-Settle.is c.settled.ensures
