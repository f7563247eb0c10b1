-- `text::numbers::value` meets its contract. The invariant: the digits passed spell v.
use Rattle.text.proofs.Reading.{Spelled}
use Rattle.text.proofs.numbers.value.Given as goal

abbrev pub invariant-loop-b : goal.invariant-loop-b
invariant-loop-b l = Spelled l.base l.word l.v l.b-index
