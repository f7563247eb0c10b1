-- Each case is that of the tests on the set-up and on the divider.
use Rattle.laws.proofs.Branches.{call-yes, call-no}
use Rattle.usi.specs.Step.{tick}
use Rattle.usi.proofs.Usi.next_tick.Goals as goal

pub returns-then-overruns : goal.returns-then-overruns
unfolding tick
returns-then-overruns c = rw (
  call-yes _ _ c.fits.ensures c.if-fits.true,
  call-yes _ _ c.overruns.ensures c.if-overruns.true,
)

pub returns-then-fits : goal.returns-then-fits
unfolding tick
returns-then-fits c = rw (
  call-yes _ _ c.fits.ensures c.if-fits.true,
  call-no _ _ c.overruns.ensures c.if-overruns.false,
  c.ticked.ensures,
)

pub returns-then-fits_spi : goal.returns-then-fits_spi
unfolding tick
returns-then-fits_spi c = rw (
  call-no _ _ c.fits.ensures c.if-fits.false,
  call-yes _ _ c.fits_spi.ensures c.if-fits_spi.true,
  c.ticked-then-fits_spi.ensures,
)

pub returns : goal.returns
unfolding tick
returns c = rw (
  call-no _ _ c.fits.ensures c.if-fits.false,
  call-no _ _ c.fits_spi.ensures c.if-fits_spi.false,
)
