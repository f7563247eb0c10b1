-- `text::words::is_in` meets its contract: each arm is its case of `belongs`.
use Rattle.text.proofs.words.is_in.Goals as goal

pub returns-in-Line : goal.returns-in-Line
returns-in-Line c = rw c.in-Line.is

pub returns-in-Blanks : goal.returns-in-Blanks
returns-in-Blanks c = rw (c.in-Blanks.is, c.is_blank.ensures)

pub returns-in-Word : goal.returns-in-Word
returns-in-Word c = rw (c.in-Word.is, c.is_blank-in-Word.ensures)
