-- `dump_reader::definitions::command` meets its contract.
use Rattle.dump_reader.specs.Definitions.{command}
use Rattle.dump_reader.proofs.definitions.command.Goals as goal

pub returns-then-is_note : goal.returns-then-is_note
unfolding command
returns-then-is_note c = rw (← c.is_note.ensures, c.if-is_note.true)

pub returns-then-is_same : goal.returns-then-is_same
unfolding command
returns-then-is_same c = rw (← c.is_note.ensures, c.if-is_note.false, ← c.is_same.ensures, c.if-is_same.true)

pub returns-then-is_same-2 : goal.returns-then-is_same-2
unfolding command
returns-then-is_same-2 c = rw (
  ← c.is_note.ensures,
  c.if-is_note.false,
  ← c.is_same.ensures,
  c.if-is_same.false,
  ← c.is_same-2.ensures,
  c.if-is_same-2.true,
)

pub returns-then-is_same-3 : goal.returns-then-is_same-3
unfolding command
returns-then-is_same-3 c = rw (
  ← c.is_note.ensures,
  c.if-is_note.false,
  ← c.is_same.ensures,
  c.if-is_same.false,
  ← c.is_same-2.ensures,
  c.if-is_same-2.false,
  ← c.is_same-3.ensures,
  c.if-is_same-3.true,
)

pub returns-then-is_same-4 : goal.returns-then-is_same-4
unfolding command
returns-then-is_same-4 c = rw (
  ← c.is_note.ensures,
  c.if-is_note.false,
  ← c.is_same.ensures,
  c.if-is_same.false,
  ← c.is_same-2.ensures,
  c.if-is_same-2.false,
  ← c.is_same-3.ensures,
  c.if-is_same-3.false,
  ← c.is_same-4.ensures,
  c.if-is_same-4.true,
) c.wire.ensures

pub returns-then-is_same-5 : goal.returns-then-is_same-5
unfolding command
returns-then-is_same-5 c = rw (
  ← c.is_note.ensures,
  c.if-is_note.false,
  ← c.is_same.ensures,
  c.if-is_same.false,
  ← c.is_same-2.ensures,
  c.if-is_same-2.false,
  ← c.is_same-3.ensures,
  c.if-is_same-3.false,
  ← c.is_same-4.ensures,
  c.if-is_same-4.false,
  ← c.is_same-5.ensures,
  c.if-is_same-5.true,
) c.opening.ensures

pub returns : goal.returns
unfolding command
returns c = rw (
  ← c.is_note.ensures,
  c.if-is_note.false,
  ← c.is_same.ensures,
  c.if-is_same.false,
  ← c.is_same-2.ensures,
  c.if-is_same-2.false,
  ← c.is_same-3.ensures,
  c.if-is_same-3.false,
  ← c.is_same-4.ensures,
  c.if-is_same-4.false,
  ← c.is_same-5.ensures,
  c.if-is_same-5.false,
)
