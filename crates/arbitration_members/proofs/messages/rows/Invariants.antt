-- The rows cut so far, and where the next message begins.
use Rattle.arbitration_members.specs.Rows.{empty_row, row_of}
use Rattle.arbitration_members.proofs.Columns.{Filling}
use Rattle.arbitration_members.proofs.messages.rows.Given as goal

abbrev pub invariant-loop-i : goal.invariant-loop-i
invariant-loop-i l = Filling row_of empty_row l.lengths l.sent l.out l.from l.i
