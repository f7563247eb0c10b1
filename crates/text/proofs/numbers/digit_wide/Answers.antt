-- `text::numbers::digit_wide` meets its contract: the digit's value, or 16.
use mathlib.Core.Path.{sym, ◌∙◌}
use Rattle.text.proofs.Reading.{some-digit, no-digit}
use Rattle.text.proofs.numbers.digit_wide.Goals as goal

pub returns-in-Some : goal.returns-in-Some
returns-in-Some c = some-digit _ _ (sym c.in-Some.is ∙ c.digit.ensures)

pub returns-in-None : goal.returns-in-None
returns-in-None c = no-digit _ (sym c.in-None.is ∙ c.digit.ensures)
