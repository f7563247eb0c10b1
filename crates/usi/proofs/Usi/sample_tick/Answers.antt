-- A sample, and a tick where it is asked: of a set-up that fits in one step, else in two.
use mathlib.Core.Path.{sym}
use borrow.Author.Tests.{leb-true, le-ltb}
use lib.Dec.{leb}
use Rattle.levels.specs.Levels.{max_level}
use Rattle.laws.proofs.Bools.{both}
use Rattle.laws.proofs.Branches.{call-yes}
use Rattle.usi.proofs.Cases.{stepped-is}
use Rattle.usi.proofs.Usi.sample_tick.Goals as goal

pub returns-then-fits-level : goal.returns-then-fits-level
returns-then-fits-level c =
    let level = c.args.level in
    let fitting = both c.fits.result (leb level max_level) c.if-fits-level.true in
    let low = le-ltb max_level level (leb-true level max_level fitting.1) in
    rw (c.stepped.ensures, c.sda.ensures, c.scl.ensures)
    (sym (stepped-is _ _ _ low (call-yes _ _ c.fits.ensures fitting.0)))

pub returns : goal.returns
returns c = c.two_steps.ensures
