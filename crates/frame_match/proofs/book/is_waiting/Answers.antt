-- `frame_match::book::is_waiting` meets its contract.
use Rattle.frame_match.proofs.book.is_waiting.Goals as goal

pub returns : goal.returns
returns c = rw (c.is_load.ensures, c.get.ensures)
