-- A sample, and a tick where it is asked.
use Rattle.usi.proofs.Usi.two_steps.Goals as goal

pub returns-then-ticks : goal.returns-then-ticks
returns-then-ticks c = rw (c.if-ticks.true, c.next_tick.ensures, c.next_sample-seen.ensures)

pub returns : goal.returns
returns c = rw (c.if-ticks.false, c.next_sample-seen.ensures)
