-- `load_text::parts::put_parts` meets its contract. The invariant: the parts passed are put.
use Rattle.load_text.proofs.Begun.{PartsPut}
use Rattle.load_text.proofs.parts.put_parts.Given as goal

abbrev pub invariant-loop-start : goal.invariant-loop-start
invariant-loop-start l = PartsPut l.row l.initial.out l.at l.silent l.start-index l.out l.next
