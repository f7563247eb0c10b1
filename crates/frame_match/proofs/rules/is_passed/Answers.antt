-- The frames after this one begin where it ends.
use Rattle.frame_match.proofs.Cutting.{frame-later}
use Rattle.frame_match.proofs.rules.is_passed.Goals as goal

pub returns : goal.returns
returns c =
    let args = c.args in
    rw (c.comes_within.ensures, c.end_of.ensures, c.loads_between-loads.ensures, frame-later args.seen.now args.from)
