-- `load_text::messages::gather` meets its contract. The invariant: the messages of the boards passed are put.
use Rattle.load_text.specs.Messages.{messages_in}
use Rattle.load_text.proofs.Handing.{Messages}
use Rattle.load_text.proofs.messages.gather.Given as goal

abbrev pub invariant-loop-board : goal.invariant-loop-board
invariant-loop-board l = Messages l.silent (messages_in l.rows l.lengths) l.initial.bytes l.board l.bytes l.next
