-- `rig_lines::console::put_form` meets its contract. The invariant: the bytes passed are put.
use Rattle.rig_lines.proofs.Forms.{Forming}
use Rattle.rig_lines.proofs.console.put_form.Given as goal

abbrev pub invariant-loop-b : goal.invariant-loop-b
invariant-loop-b l = Forming l.initial.page l.at l.words l.numbers l.b-index l.number l.page l.next
