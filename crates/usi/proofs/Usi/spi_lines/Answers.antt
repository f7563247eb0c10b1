-- Each case is that of the test on the set-up.
use Rattle.laws.proofs.Branches.{call-yes}
use Rattle.laws.proofs.Branches.{branches}
use Rattle.usi.specs.Module.{spi_lines}
use Rattle.usi.proofs.Usi.spi_lines.Goals as goal

pub returns-then-fits_spi : goal.returns-then-fits_spi
unfolding spi_lines
returns-then-fits_spi c = rw (
  call-yes _ _ c.fits_spi.ensures c.if-fits_spi.true,
  c.data_line.ensures,
  c.clock_line.ensures,
)

pub returns : goal.returns
unfolding spi_lines
returns c = search branches
