-- `dump::piece` meets its contract: it is the writer's.
use Rattle.dump.proofs.piece.Goals as goal

pub returns : goal.returns
returns c = c.write-point.ensures.text.put
