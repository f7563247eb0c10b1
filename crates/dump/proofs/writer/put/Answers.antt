-- `dump::writer::put` meets its contract.
use mathlib.Core.Path.{refl, sym}
use Rattle.text.proofs.Runs.{to_end}
use Rattle.text.proofs.Putting.{put_as}
use Rattle.dump.proofs.Window.{past-holds}
use Rattle.dump.proofs.writer.put.Goals as goal

pub returns : goal.returns
returns c =
    let chunk = c.args.chunk.now in
    let first = c.min-first in
    past-holds _ chunk _ c.args.point _ first.result first.ensures refl
    (put_as _ _ (sym (to_end first.result chunk)) c.put_bytes-at.ensures)
