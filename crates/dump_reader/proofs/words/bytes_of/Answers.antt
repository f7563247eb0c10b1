-- `dump_reader::words::bytes_of` meets its contract.
use Rattle.dump_reader.proofs.Spans.{bytes-are}
use Rattle.dump_reader.proofs.words.bytes_of.Goals as goal

pub returns : goal.returns
returns c = bytes-are c.args.text.now c.args.word _ _ c.min-end.ensures c.min.ensures
