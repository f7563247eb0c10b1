-- `load_text::words::byte_in` meets its contract.
use Rattle.laws.proofs.Branches.{branches}
use borrow.Author.Tests.{eq-eqb}
use Rattle.load_text.specs.Words.{byte_in}
use Rattle.load_text.proofs.words.byte_in.Goals as goal

pub returns-then-word-ne2 : goal.returns-then-word-ne2
unfolding byte_in
returns-then-word-ne2 c = search branches

pub returns : goal.returns
unfolding byte_in
returns c = rw (eq-eqb _ _ c.if-word-ne2.false) (cc)
