-- `frame_match::book::is_rehearsed` meets its contract.
use Rattle.frame_match.proofs.book.is_rehearsed.Goals as goal

pub returns : goal.returns
returns c = rw (c.is_load.ensures, c.get.ensures, c.get-2.ensures, c.get-3.ensures)
