-- The timescale of what the reader answers with room for every trace.
use Rattle.export.proofs.dump_calls.kan_bus_dump_timescale.Goals as goal

pub returns : goal.returns
returns c = rw (c.timescale_of.ensures, c.read.ensures.answer)
