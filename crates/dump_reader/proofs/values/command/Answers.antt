-- `dump_reader::values::command` meets its contract.
use Rattle.dump_reader.specs.Values.{command}
use Rattle.dump_reader.proofs.values.command.Goals as goal

pub returns-then-is_same : goal.returns-then-is_same
unfolding command
returns-then-is_same c = rw (← c.is_same.ensures, c.if-is_same.true)

pub returns-then-inside : goal.returns-then-inside
unfolding command
returns-then-inside c = rw (← c.is_same.ensures, c.if-is_same.false, c.if-inside.true) c.close.ensures

pub returns-then-is_same-2 : goal.returns-then-is_same-2
unfolding command
returns-then-is_same-2 c = rw (← c.is_same.ensures, c.if-is_same.false, c.if-inside.false, ← c.is_same-2.ensures, c.if-is_same-2.true)

pub returns-then-is_dump : goal.returns-then-is_dump
unfolding command
returns-then-is_dump c = rw (
  ← c.is_same.ensures,
  c.if-is_same.false,
  c.if-inside.false,
  ← c.is_same-2.ensures,
  c.if-is_same-2.false,
  ← c.is_dump.ensures,
  c.if-is_dump.true,
)

pub returns : goal.returns
unfolding command
returns c = rw (
  ← c.is_same.ensures,
  c.if-is_same.false,
  c.if-inside.false,
  ← c.is_same-2.ensures,
  c.if-is_same-2.false,
  ← c.is_dump.ensures,
  c.if-is_dump.false,
)
