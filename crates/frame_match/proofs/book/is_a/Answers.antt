-- `frame_match::book::is_a` meets its contract.
use Rattle.frame_match.proofs.book.is_a.Goals as goal

pub returns-in-Load : goal.returns-in-Load
returns-in-Load c = rw c.in-Load.is c.is_load.ensures

pub returns-in-Board : goal.returns-in-Board
returns-in-Board c = rw (c.in-Board.is, c.is_load-in-Board.ensures)

pub returns-in-Rehearsed : goal.returns-in-Rehearsed
returns-in-Rehearsed c = rw c.in-Rehearsed.is c.is_rehearsed.ensures

pub returns-in-Waiting : goal.returns-in-Waiting
returns-in-Waiting c = rw c.in-Waiting.is c.is_waiting.ensures
