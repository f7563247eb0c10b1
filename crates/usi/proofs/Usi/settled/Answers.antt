-- Each case is that of the tests on the set-up.
use Rattle.laws.proofs.Branches.{call-yes, call-no}
use Rattle.laws.proofs.Branches.{branches}
use Rattle.usi.specs.Step.{settled}
use Rattle.usi.proofs.Usi.settled.Goals as goal

pub returns-then-fits : goal.returns-then-fits
unfolding settled
returns-then-fits c = rw (
  call-yes _ _ c.fits.ensures c.if-fits.true,
  c.followed.ensures,
  c.kept.ensures,
  c.fits-then-fits.ensures,
)

pub returns-then-fits_spi : goal.returns-then-fits_spi
unfolding settled
returns-then-fits_spi c = rw (
  call-no _ _ c.fits.ensures c.if-fits.false,
  call-yes _ _ c.fits_spi.ensures c.if-fits_spi.true,
  c.followed-then-fits_spi.ensures,
  c.kept-then-fits_spi.ensures,
  c.fits_spi-then-fits_spi.ensures,
)

pub returns : goal.returns
unfolding settled
returns c = search branches
