-- Each case is that of the test on the set-up.
use Rattle.laws.proofs.Branches.{call-true, call-false}
use Rattle.std.proofs.Common.{ap, not}
use Rattle.usi.proofs.Usi.lines.Goals as goal

pub returns-then-not-fits : goal.returns-then-not-fits
returns-then-not-fits c = rw (call-false _ _ c.fits.ensures (ap not c.if-not-fits.true))

pub returns : goal.returns
returns c =
    let fitting = call-true _ _ c.fits.ensures (ap not c.if-not-fits.false) in
    rw (fitting, c.pulls_sda.ensures, c.holds-held.ensures, c.drives-driven.ensures)
