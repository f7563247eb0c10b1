-- `dump_reader::values::stamped` meets its contract.
use Rattle.dump_reader.proofs.values.stamped.Goals as goal

pub returns-then-wave : goal.returns-then-wave
returns-then-wave c = rw c.if-wave.true

pub returns-else-wave : goal.returns-else-wave
returns-else-wave c = rw c.if-wave.false
