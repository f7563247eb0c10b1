-- A frame ends where the next begins.
use mathlib.Core.Path.{sym, ◌∙◌}
use Rattle.frame_match.proofs.Cutting.{frame-end, frame-end-past}
use Rattle.frame_match.proofs.frames.end_of.Goals as goal

pub returns-then-from-seen : goal.returns-then-from-seen
returns-then-from-seen c =
    let args = c.args in
    c.start_from.ensures ∙ sym (frame-end args.seen.now args.from c.if-from-seen.true)

pub returns : goal.returns
returns c =
    let args = c.args in
    sym (frame-end-past args.seen.now args.from c.if-from-seen.false)
