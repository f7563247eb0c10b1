-- `load_text::words::is_board_name` meets its contract.
use Rattle.laws.proofs.Branches.{branches}
use borrow.Author.Tests.{ne_eqb}
use Rattle.load_text.specs.Words.{board_name}
use Rattle.load_text.proofs.words.is_board_name.Goals as goal

pub returns-then-word-eq0 : goal.returns-then-word-eq0
unfolding board_name
returns-then-word-eq0 c = search branches

pub returns : goal.returns
unfolding board_name
returns c = rw (ne_eqb _ _ c.if-word-eq0.false) (cc)
