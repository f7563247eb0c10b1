-- The bit that enters takes the place that the shift freed.
use Rattle.bits.proofs.Masks.{shift-or}
use Rattle.bits.proofs.shift_in.Goals as goal

pub returns : goal.returns
returns c = shift-or c.args.x c.args.low
