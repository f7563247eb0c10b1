-- A text may end between commands only.
use Rattle.dump_reader.proofs.may_end.Goals as goal

pub returns-in-Definitions : goal.returns-in-Definitions
returns-in-Definitions c = rw c.in-Definitions.is

pub returns-in-Values : goal.returns-in-Values
returns-in-Values c = rw c.in-Values.is
