-- `trace_text::reading::alone` meets its contract.
use borrow.Author.Tests.{eq-eqb, ne_eqb}
use Rattle.trace_text.specs.Words.{alone_in}
use Rattle.trace_text.proofs.reading.alone.Goals as goal

pub returns-then-first_word-eq0 : goal.returns-then-first_word-eq0
unfolding alone_in
returns-then-first_word-eq0 c = rw (← c.first_word.ensures, eq-eqb _ _ c.if-first_word-eq0.true)

pub returns : goal.returns
unfolding alone_in
returns c = rw (← c.first_word.ensures, ne_eqb _ _ c.if-first_word-eq0.false)
