-- 515 comes first where bits are pending.
use mathlib.Core.Path.{refl}
use borrow.Author.Tests.{eq-eqb, ne_eqb}
use Rattle.decode.specs.Decode.{cut}
use Rattle.decode.proofs.Decoder.condition.Goals as goal

pub returns-then-self-eq0 : goal.returns-then-self-eq0
unfolding cut
returns-then-self-eq0 c = (refl, rw (eq-eqb _ _ c.if-self-eq0.true))

pub returns : goal.returns
unfolding cut
returns c = (refl, rw (ne_eqb _ _ c.if-self-eq0.false))
