-- `load_text::boards::master_of` meets its contract. The invariant: the boards passed are counted.
use Rattle.load_text.proofs.Masters.{Counted}
use Rattle.load_text.proofs.boards.master_of.Given as goal

abbrev pub invariant-loop-i : goal.invariant-loop-i
invariant-loop-i l = Counted l.silent l.board l.master l.i
