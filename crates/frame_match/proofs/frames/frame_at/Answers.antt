-- `frame_match::frames::frame_at` meets its contract.
use Rattle.frame_match.proofs.Cutting.{frame-spanned}
use Rattle.frame_match.proofs.frames.frame_at.Goals as goal

pub returns : goal.returns
returns c =
    let args = c.args in
    rw (c.span.ensures, c.end_of.ensures) (frame-spanned args.seen.now args.from)
