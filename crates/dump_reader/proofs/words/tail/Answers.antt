-- `dump_reader::words::tail` meets its contract.
use Rattle.dump_reader.proofs.Spans.{tail-is}
use Rattle.dump_reader.proofs.words.tail.Goals as goal

pub returns : goal.returns
returns c = tail-is _ _ _ c.min.ensures
