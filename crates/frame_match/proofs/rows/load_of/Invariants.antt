-- No row passed, down from the board, is a load.
use mathlib.Core.Path.{◌≡◌}
use Rattle.frame_match.specs.Rows.{load_of}
use Rattle.frame_match.proofs.rows.load_of.Given as goal

abbrev pub invariant-loop-load : goal.invariant-loop-load
invariant-loop-load l = load_of l.book l.row ≡ load_of l.book l.load

abbrev pub decreases-loop-load : goal.decreases-loop-load
decreases-loop-load l = l.load
