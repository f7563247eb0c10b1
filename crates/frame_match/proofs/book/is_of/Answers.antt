-- `frame_match::book::is_of` meets its contract.
use mathlib.Core.Path.{◌∙◌}
use Rattle.frame_match.proofs.Comparing.{pointwise-same}
use Rattle.frame_match.proofs.book.is_of.Goals as goal

pub returns : goal.returns
returns c = c.eq.ensures ∙ pointwise-same c.span.result.now c.args.frame.now ∙ rw (c.span.ensures, c.get-2.ensures, c.get.ensures)
