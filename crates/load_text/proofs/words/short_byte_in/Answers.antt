-- `load_text::words::short_byte_in` meets its contract.
use Rattle.laws.proofs.Branches.{branches}
use borrow.Author.Tests.{le-ltb}
use Rattle.load_text.specs.Words.{short_byte_in}
use Rattle.load_text.proofs.words.short_byte_in.Goals as goal

pub returns-then-word-gt2 : goal.returns-then-word-gt2
unfolding short_byte_in
returns-then-word-gt2 c = search branches

pub returns : goal.returns
unfolding short_byte_in
returns c = rw (le-ltb _ _ c.if-word-gt2.false) (cc)
