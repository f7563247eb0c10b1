-- `dump_reader::values::with_line` meets its contract.
use Rattle.dump_reader.specs.Values.{with_line}
use Rattle.dump_reader.proofs.values.with_line.Goals as goal

pub returns-then-scl : goal.returns-then-scl
unfolding with_line
returns-then-scl c = rw (c.level_of.ensures, c.sda.ensures, c.if-scl.true)

pub returns : goal.returns
unfolding with_line
returns c = rw (c.level_of-2.ensures, c.scl.ensures, c.if-scl.false)
