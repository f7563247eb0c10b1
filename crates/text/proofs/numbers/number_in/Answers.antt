-- `text::numbers::number_in` meets its contract.
use Rattle.text.proofs.Reading.{number-empty, number-bad, number-good}
use Rattle.std.proofs.Common.{ap, not}
use Rattle.text.proofs.numbers.number_in.Goals as goal

pub returns-then-word-eq0 : goal.returns-then-word-eq0
returns-then-word-eq0 c = number-empty _ _ c.if-word-eq0.true

pub returns-then-not-all_digits : goal.returns-then-not-all_digits
returns-then-not-all_digits c = number-bad _ _ _ c.all_digits.ensures (ap not c.if-not-all_digits.true)

pub returns : goal.returns
returns c =
    let some = c.if-word-eq0.false in
    number-good _ _ _ _ c.all_digits.ensures (ap not c.if-not-all_digits.false) some c.value.ensures
