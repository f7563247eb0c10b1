-- `dump_reader::words::is_in` meets its contract.
use Rattle.dump_reader.proofs.words.is_in.Goals as goal

pub returns-in-Parting : goal.returns-in-Parting
returns-in-Parting c = rw (c.in-Parting.is, c.parts.ensures)

pub returns-in-Word : goal.returns-in-Word
returns-in-Word c = rw (c.in-Word.is, c.parts-in-Word.ensures)

pub returns-in-Digits : goal.returns-in-Digits
returns-in-Digits c = rw c.in-Digits.is

pub returns-in-Graphic : goal.returns-in-Graphic
returns-in-Graphic c = rw c.in-Graphic.is
