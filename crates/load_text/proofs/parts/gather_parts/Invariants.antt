-- `load_text::parts::gather_parts` meets its contract. The invariant: the parts of the boards passed are put.
use Rattle.load_text.specs.Messages.{parts_in}
use Rattle.load_text.proofs.Handing.{Messages}
use Rattle.load_text.proofs.parts.gather_parts.Given as goal

abbrev pub invariant-loop-board : goal.invariant-loop-board
invariant-loop-board l = Messages l.silent (parts_in l.rows) l.initial.out l.board l.out l.next
