-- `frame_match::frames::span` meets its contract.
use Rattle.frame_match.proofs.Cutting.{part-is}
use Rattle.frame_match.proofs.frames.span.Goals as goal

pub returns : goal.returns
returns c = part-is _ _ _ _ c.args.events.now c.min-end.ensures c.min-start.ensures
