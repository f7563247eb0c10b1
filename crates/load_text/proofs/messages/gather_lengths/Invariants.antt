-- `load_text::messages::gather_lengths` meets its contract. The invariant: the lengths of the boards passed are put.
use Rattle.load_text.proofs.Handing.{Lengths}
use Rattle.load_text.proofs.messages.gather_lengths.Given as goal

abbrev pub invariant-loop-board : goal.invariant-loop-board
invariant-loop-board l = Lengths l.silent l.lengths l.initial.out l.board l.out l.next
