-- `load_text::parts::count_parts` meets its contract. The invariant: the parts passed are counted.
use Rattle.load_text.proofs.Begun.{Counted}
use Rattle.load_text.proofs.parts.count_parts.Given as goal

abbrev pub invariant-loop-start : goal.invariant-loop-start
invariant-loop-start l = Counted l.row l.start-index l.count
