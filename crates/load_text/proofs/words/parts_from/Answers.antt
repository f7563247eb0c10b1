-- `load_text::words::parts_from` meets its contract.
use Rattle.load_text.specs.Words.{parts_from}
use Rattle.load_text.proofs.words.parts_from.Goals as goal

pub returns-then-is_number : goal.returns-then-is_number
unfolding parts_from
returns-then-is_number c = rw (← c.is_number.ensures, ← c.is_number-2.ensures, c.if-is_number.true) (cc)

pub returns : goal.returns
unfolding parts_from
returns c = rw (← c.is_number.ensures, ← c.is_number-2.ensures, c.if-is_number.false)
