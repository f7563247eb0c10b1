-- Each case is that of the test on the set-up.
use Rattle.laws.proofs.Branches.{call-yes, call-no}
use Rattle.usi_text.specs.Module.{lines_text}
use Rattle.usi_text.proofs.put_lines.Goals as goal

pub returns-then-fits_spi : goal.returns-then-fits_spi
unfolding lines_text
returns-then-fits_spi c = rw (call-yes _ _ c.fits_spi.ensures c.if-fits_spi.true) c.put_drives.ensures

pub returns : goal.returns
unfolding lines_text
returns c = rw (call-no _ _ c.fits_spi.ensures c.if-fits_spi.false) c.put_pulls.ensures
