-- The reply packed; the slices are what the reader leaves.
use Rattle.export.proofs.Small.{dump-read-small}
use Rattle.export.proofs.dump_calls.kan_bus_read_dump.Goals as goal

pub dump_read_answer-requires : goal.dump_read_answer-requires
dump_read_answer-requires c = rw c.read.ensures.answer (dump-read-small _ _ _)

pub returns : goal.returns
returns c =
    let done = c.read.ensures in
    record {
      answer = rw (c.dump_read_answer.ensures, done.answer);
      stamped = rw (← done.answer) done.stamped;
      stored = rw (← done.answer) done.stored;
    }
