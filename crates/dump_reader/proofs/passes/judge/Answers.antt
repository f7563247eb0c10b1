-- `dump_reader::passes::judge` meets its contract.
use mathlib.Core.Path.{refl}
use Rattle.dump_reader.proofs.Folds.{step-as}
use Rattle.dump_reader.proofs.passes.judge.Goals as goal

pub returns-in-Definitions : goal.returns-in-Definitions
returns-in-Definitions c = step-as _ _ _ _ _ c.in-Definitions.is
    (rw (← c.bytes_of-bytes.ensures, ← c.command.ensures) c.moved.ensures)

pub returns-in-Note : goal.returns-in-Note
returns-in-Note c = step-as _ _ _ _ _ c.in-Note.is
    (rw (← c.bytes_of-bytes.ensures, ← c.skip.ensures) c.moved-in-Note.ensures)

pub returns-in-Number : goal.returns-in-Number
returns-in-Number c = step-as _ _ _ _ _ c.in-Number.is (rw (← c.bytes_of-bytes.ensures) c.number.ensures)

pub returns-in-Unit : goal.returns-in-Unit
returns-in-Unit c = step-as _ _ _ _ _ c.in-Unit.is (rw (← c.bytes_of-bytes.ensures) c.unit.ensures)

pub returns-in-Close : goal.returns-in-Close
returns-in-Close c = step-as _ _ _ _ _ c.in-Close.is
    (rw (← c.bytes_of-bytes.ensures, ← c.close.ensures) c.moved-in-Close.ensures)

pub returns-in-ScopeType : goal.returns-in-ScopeType
returns-in-ScopeType c = step-as _ _ _ _ _ c.in-ScopeType.is
    (rw (← c.bytes_of-bytes.ensures, ← c.scope_type.ensures) c.moved-in-ScopeType.ensures)

pub returns-in-ScopeName : goal.returns-in-ScopeName
returns-in-ScopeName c = step-as _ _ _ _ _ c.in-ScopeName.is
    (rw (← c.bytes_of-bytes.ensures, ← c.name.ensures) c.moved-in-ScopeName.ensures)

pub returns-in-WireType : goal.returns-in-WireType
returns-in-WireType c = step-as _ _ _ _ _ c.in-WireType.is
    (rw (← c.bytes_of-bytes.ensures, ← c.wire_type.ensures) c.moved-in-WireType.ensures)

pub returns-in-WireSize : goal.returns-in-WireSize
returns-in-WireSize c = step-as _ _ _ _ _ c.in-WireSize.is
    (rw (← c.bytes_of-bytes.ensures, ← c.wire_size.ensures) c.moved-in-WireSize.ensures)

pub returns-in-Identifier : goal.returns-in-Identifier
returns-in-Identifier c = step-as _ _ _ _ _ c.in-Identifier.is c.declare.ensures

pub returns-in-Name : goal.returns-in-Name
returns-in-Name c = step-as _ _ _ _ _ c.in-Name.is
    (rw (← c.bytes_of-bytes.ensures, ← c.name-in-Name.ensures) c.moved-in-Name.ensures)

pub returns-in-Names : goal.returns-in-Names
returns-in-Names c = step-as _ _ _ _ _ c.in-Names.is
    (rw (← c.bytes_of-bytes.ensures, ← c.names.ensures) c.moved-in-Names.ensures)

pub returns-in-Opening : goal.returns-in-Opening
returns-in-Opening c = step-as _ _ _ _ _ c.in-Opening.is
    (rw (← c.bytes_of-bytes.ensures, ← c.close-in-Opening.ensures) c.moved-in-Opening.ensures)

pub returns-in-Values : goal.returns-in-Values
returns-in-Values c = step-as _ _ _ _ _ c.in-Values.is (rw (← c.bytes_of-bytes.ensures) c.change.ensures)

pub returns-in-Section : goal.returns-in-Section
returns-in-Section c = step-as _ _ _ _ _ c.in-Section.is (rw (← c.bytes_of-bytes.ensures) c.change-in-Section.ensures)

pub returns-in-Comment : goal.returns-in-Comment
returns-in-Comment c = step-as _ _ _ _ _ c.in-Comment.is
    (rw (← c.bytes_of-bytes.ensures, ← c.skip-in-Comment.ensures) c.moved-in-Comment.ensures)

pub returns-in-Refused : goal.returns-in-Refused
returns-in-Refused c = step-as _ _ _ _ _ c.in-Refused.is (refl)
