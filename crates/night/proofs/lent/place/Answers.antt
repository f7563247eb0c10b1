use native.Mathlib.Numerals.{add-one}
use Rattle.night.proofs.lent.place.Goals as goal

pub loop-i-preserved : goal.loop-i-preserved
loop-i-preserved c = rw (add-one, c.module_at.ensures, c.loop-i.invariant)
