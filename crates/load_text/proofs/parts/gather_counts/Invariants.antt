-- `load_text::parts::gather_counts` meets its contract. The invariant: the numbers of the boards passed are put.
use Rattle.load_text.specs.Messages.{part_counts}
use Rattle.load_text.proofs.Handing.{Lengths}
use Rattle.load_text.proofs.parts.gather_counts.Given as goal

abbrev pub invariant-loop-board : goal.invariant-loop-board
invariant-loop-board l = Lengths l.silent (part_counts l.rows) l.initial.out l.board l.out l.next
