-- Each case is that of the tests on the set-up.
use Rattle.laws.proofs.Branches.{call-yes, call-no}
use Rattle.laws.proofs.Branches.{branches}
use Rattle.usi.specs.Step.{tick}
use Rattle.usi.proofs.Usi.tick.Goals as goal

pub returns-then-fits : goal.returns-then-fits
unfolding tick
returns-then-fits c = search branches

pub returns-then-fits_spi : goal.returns-then-fits_spi
unfolding tick
returns-then-fits_spi c = rw (
  call-no _ _ c.fits.ensures c.if-fits.false,
  call-yes _ _ c.fits_spi.ensures c.if-fits_spi.true,
  c.ticked.ensures,
)

pub returns : goal.returns
unfolding tick
returns c = search branches
