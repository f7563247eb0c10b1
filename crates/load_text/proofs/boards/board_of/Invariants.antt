-- `load_text::boards::board_of` meets its contract. The invariant: the master's board stands past those looked at.
use Rattle.load_text.proofs.Masters.{Sought}
use Rattle.load_text.proofs.boards.board_of.Given as goal

abbrev pub invariant-loop-board : goal.invariant-loop-board
invariant-loop-board l = Sought l.silent l.master l.left l.board
