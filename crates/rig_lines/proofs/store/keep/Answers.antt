-- `rig_lines::store::keep` meets its contract.
use Rattle.rig_lines.proofs.Storing.{kept-within, kept-past}
use Rattle.rig_lines.proofs.store.keep.Goals as goal

pub returns-then-at-list : goal.returns-then-at-list
returns-then-at-list g c = kept-within _ _ _ c.if-at-list.true

pub returns : goal.returns
returns g c = kept-past _ _ _ c.if-at-list.false
