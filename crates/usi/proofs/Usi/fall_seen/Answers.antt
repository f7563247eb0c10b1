use Rattle.usi.specs.Cases.{fall_seen}
use Rattle.usi.proofs.Usi.fall_seen.Goals as goal

pub returns-then-moves_latch : goal.returns-then-moves_latch
unfolding fall_seen
returns-then-moves_latch c = rw (
  c.stretched.ensures,
  c.latched.ensures,
  ← c.moves_latch.ensures,
  c.if-moves_latch.true,
)

pub returns : goal.returns
unfolding fall_seen
returns c = rw (c.stretched-2.ensures, ← c.moves_latch.ensures, c.if-moves_latch.false)
