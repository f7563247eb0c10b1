-- The composition of what the calls answer.
use Rattle.usi.proofs.spi.captured.Goals as goal

pub returns : goal.returns
returns c = cc
