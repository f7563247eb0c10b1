-- `export::kan_usi_spi_lines` meets its contract.
use Rattle.export.proofs.kan_usi_spi_lines.Goals as goal

pub returns : goal.returns
returns c = rw (c.line_number-2.ensures.0, c.line_number.ensures.0, c.spi_lines-lines.ensures, c.unpacked.ensures)
