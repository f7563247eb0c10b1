-- `rig_lines::input::next_byte` meets its contract.
use Rattle.rig_lines.specs.Input.{byte}
use Rattle.rig_lines.proofs.input.next_byte.Goals as goal

pub returns-then-at-piece : goal.returns-then-at-piece
returns-then-at-piece g c = byte c.refilled-after.ensures.fed c.if-at-after.true
    c.if-at-piece.true
