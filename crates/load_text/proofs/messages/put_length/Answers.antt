-- `load_text::messages::put_length` meets its contract.
use Rattle.text.proofs.Putting.{put-none, put_one, put_full, put_as}
use Rattle.load_text.proofs.Handing.{unless-silent, unless_not}
use borrow.Author.Rules.{rules}
use Rattle.load_text.proofs.messages.put_length.Goals as goal

pub returns-then-silent : goal.returns-then-silent
returns-then-silent c = put_as _ _ (unless-silent _ _ c.if-silent.true) (put-none _ _ _ c.min.ensures)

pub returns-then-at-out : goal.returns-then-at-out
returns-then-at-out c = put_as _ _ (unless_not _ _ c.if-silent.false) (put_one _ _ _ (search rules))

pub returns : goal.returns
returns c = put_as _ _ (unless_not _ _ c.if-silent.false) (put_full _ _ _ (search rules))
