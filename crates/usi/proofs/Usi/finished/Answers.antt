-- Each case is that of the test.
use Rattle.usi.specs.Cases.{finished}
use Rattle.usi.proofs.Usi.finished.Goals as goal

pub returns-then-ticks-overruns : goal.returns-then-ticks-overruns
unfolding finished
returns-then-ticks-overruns c = rw (← c.overruns.ensures, c.if-ticks-overruns.true, c.followed.ensures)

pub returns : goal.returns
unfolding finished
returns c = rw (← c.overruns.ensures, c.if-ticks-overruns.false, c.ticked.ensures)
