-- `frame_match::book::is_load` meets its contract.
use Rattle.frame_match.proofs.book.is_load.Goals as goal

pub returns : goal.returns
returns c = rw c.get.ensures
