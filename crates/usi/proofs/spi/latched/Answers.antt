-- The composition of what the calls answer.
use Rattle.usi.proofs.spi.latched.Goals as goal

pub returns : goal.returns
returns c = rw (c.output_enable-enable.ensures, c.outgoing-latch.ensures, c.register.ensures)
