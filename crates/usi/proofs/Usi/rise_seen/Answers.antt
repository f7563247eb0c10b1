use Rattle.usi.specs.Cases.{rise_seen}
use Rattle.usi.proofs.Usi.rise_seen.Goals as goal

pub returns-then-takes_bit : goal.returns-then-takes_bit
unfolding rise_seen
returns-then-takes_bit c = rw (
  c.stretched.ensures,
  c.bit_taken.ensures,
  ← c.takes_bit.ensures,
  c.if-takes_bit.true,
)

pub returns : goal.returns
unfolding rise_seen
returns c = rw (c.stretched-2.ensures, ← c.takes_bit.ensures, c.if-takes_bit.false)
