-- Each case is that of the tests, in the order of the refusals.
use Rattle.laws.proofs.Branches.{call-yes, call-no}
use borrow.Author.Tests.{lt-ltb, le-ltb}
use Rattle.usi.specs.Step.{sample}
use Rattle.usi.proofs.Usi.next_sample.Goals as goal

pub returns-then-level-gt-MAX_LEVEL : goal.returns-then-level-gt-MAX_LEVEL
unfolding sample
returns-then-level-gt-MAX_LEVEL c = rw (lt-ltb _ _ c.if-level-gt-MAX_LEVEL.true)

pub returns-then-fits : goal.returns-then-fits
unfolding sample
returns-then-fits c = rw (
  le-ltb _ _ c.if-level-gt-MAX_LEVEL.false,
  call-yes _ _ c.fits.ensures c.if-fits.true,
  c.sampled.ensures,
  c.sda.ensures,
  c.scl.ensures,
)

pub returns-then-fits_spi : goal.returns-then-fits_spi
unfolding sample
returns-then-fits_spi c = rw (
  le-ltb _ _ c.if-level-gt-MAX_LEVEL.false,
  call-no _ _ c.fits.ensures c.if-fits.false,
  call-yes _ _ c.fits_spi.ensures c.if-fits_spi.true,
  c.sampled-then-fits_spi.ensures,
  c.sda-then-fits_spi.ensures,
  c.scl-then-fits_spi.ensures,
)

pub returns : goal.returns
unfolding sample
returns c = rw (
  le-ltb _ _ c.if-level-gt-MAX_LEVEL.false,
  call-no _ _ c.fits.ensures c.if-fits.false,
  call-no _ _ c.fits_spi.ensures c.if-fits_spi.false,
)
