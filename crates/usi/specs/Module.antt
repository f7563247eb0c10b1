-- The module's state as a value: power-up, one register replaced, the hidden state at rest, and the lines that it
-- drives.
use Rattle.std.specs.Prelude.{ℕ, Bool, cond, true, false, ◌&&◌, ◌||◌}
use Rattle.usi_registers.specs.Registers.{USICTL0-power_up, USICTL1-power_up, USICKCTL-power_up, USICNT-power_up}
use Rattle.usi_registers.specs.Rules as set_up
use Rattle.usi_i2c.specs.Rules as rules
use Rattle.usi_spi.specs.declared.Driven.TheVariants.{Released}
use Rattle.usi_spi.specs.Rules as spi
use Rattle.usi.specs.declared.Usi.{Usi}
use Rattle.usi.specs.declared.Lines.{Lines}
use Rattle.usi.specs.declared.SpiLines.{SpiLines}

-- Power-up is told the two shift bytes to keep; the hidden state is at rest: latch 1, enable 0, half high, no levels,
-- not caught.
abbrev pub power_up : ℕ → ℕ → Usi
power_up low high =
    record {
      usictl0 = USICTL0-power_up;
      usictl1 = USICTL1-power_up;
      usickctl = USICKCTL-power_up;
      usicnt = USICNT-power_up;
      usisrl = low;
      usisrh = high;
      latch = true;
      enable = false;
      phase = true;
      seen = false;
      scl = false;
      sda = false;
      stretch = false;
    }

-- One register replaced.
abbrev pub with_usictl0 : ℕ → Usi → Usi
with_usictl0 value u =
    record {
      usictl0 = value;
      usictl1 = u.usictl1;
      usickctl = u.usickctl;
      usicnt = u.usicnt;
      usisrl = u.usisrl;
      usisrh = u.usisrh;
      latch = u.latch;
      enable = u.enable;
      phase = u.phase;
      seen = u.seen;
      scl = u.scl;
      sda = u.sda;
      stretch = u.stretch;
    }

abbrev pub with_usictl1 : ℕ → Usi → Usi
with_usictl1 value u =
    record {
      usictl0 = u.usictl0;
      usictl1 = value;
      usickctl = u.usickctl;
      usicnt = u.usicnt;
      usisrl = u.usisrl;
      usisrh = u.usisrh;
      latch = u.latch;
      enable = u.enable;
      phase = u.phase;
      seen = u.seen;
      scl = u.scl;
      sda = u.sda;
      stretch = u.stretch;
    }

abbrev pub with_usickctl : ℕ → Usi → Usi
with_usickctl value u =
    record {
      usictl0 = u.usictl0;
      usictl1 = u.usictl1;
      usickctl = value;
      usicnt = u.usicnt;
      usisrl = u.usisrl;
      usisrh = u.usisrh;
      latch = u.latch;
      enable = u.enable;
      phase = u.phase;
      seen = u.seen;
      scl = u.scl;
      sda = u.sda;
      stretch = u.stretch;
    }

abbrev pub with_usicnt : ℕ → Usi → Usi
with_usicnt value u =
    record {
      usictl0 = u.usictl0;
      usictl1 = u.usictl1;
      usickctl = u.usickctl;
      usicnt = value;
      usisrl = u.usisrl;
      usisrh = u.usisrh;
      latch = u.latch;
      enable = u.enable;
      phase = u.phase;
      seen = u.seen;
      scl = u.scl;
      sda = u.sda;
      stretch = u.stretch;
    }

abbrev pub with_usisrl : ℕ → Usi → Usi
with_usisrl value u =
    record {
      usictl0 = u.usictl0;
      usictl1 = u.usictl1;
      usickctl = u.usickctl;
      usicnt = u.usicnt;
      usisrl = value;
      usisrh = u.usisrh;
      latch = u.latch;
      enable = u.enable;
      phase = u.phase;
      seen = u.seen;
      scl = u.scl;
      sda = u.sda;
      stretch = u.stretch;
    }

abbrev pub with_usisrh : ℕ → Usi → Usi
with_usisrh value u =
    record {
      usictl0 = u.usictl0;
      usictl1 = u.usictl1;
      usickctl = u.usickctl;
      usicnt = u.usicnt;
      usisrl = u.usisrl;
      usisrh = value;
      latch = u.latch;
      enable = u.enable;
      phase = u.phase;
      seen = u.seen;
      scl = u.scl;
      sda = u.sda;
      stretch = u.stretch;
    }

-- The hidden state at rest, whatever it was.
abbrev pub at_rest : Usi → Usi
at_rest u =
    record {
      usictl0 = u.usictl0;
      usictl1 = u.usictl1;
      usickctl = u.usickctl;
      usicnt = u.usicnt;
      usisrl = u.usisrl;
      usisrh = u.usisrh;
      latch = true;
      enable = false;
      phase = true;
      seen = false;
      scl = false;
      sda = false;
      stretch = false;
    }

-- The output latch and the latched enable replaced.
abbrev pub with_latch : Bool → Bool → Usi → Usi
with_latch latch enable u =
    record {
      usictl0 = u.usictl0;
      usictl1 = u.usictl1;
      usickctl = u.usickctl;
      usicnt = u.usicnt;
      usisrl = u.usisrl;
      usisrh = u.usisrh;
      latch = latch;
      enable = enable;
      phase = u.phase;
      seen = u.seen;
      scl = u.scl;
      sda = u.sda;
      stretch = u.stretch;
    }

-- The clock phase (01: clock half) replaced.
abbrev pub with_phase : Bool → Usi → Usi
with_phase phase u =
    record {
      usictl0 = u.usictl0;
      usictl1 = u.usictl1;
      usickctl = u.usickctl;
      usicnt = u.usicnt;
      usisrl = u.usisrl;
      usisrh = u.usisrh;
      latch = u.latch;
      enable = u.enable;
      phase = phase;
      seen = u.seen;
      scl = u.scl;
      sda = u.sda;
      stretch = u.stretch;
    }

-- The levels last seen replaced.
abbrev pub with_levels : Bool → Bool → Usi → Usi
with_levels scl sda u =
    record {
      usictl0 = u.usictl0;
      usictl1 = u.usictl1;
      usickctl = u.usickctl;
      usicnt = u.usicnt;
      usisrl = u.usisrl;
      usisrh = u.usisrh;
      latch = u.latch;
      enable = u.enable;
      phase = u.phase;
      seen = true;
      scl = scl;
      sda = sda;
      stretch = u.stretch;
    }

-- The stretch (01: caught) replaced.
abbrev pub with_stretch : Bool → Usi → Usi
with_stretch stretch u =
    record {
      usictl0 = u.usictl0;
      usictl1 = u.usictl1;
      usickctl = u.usickctl;
      usicnt = u.usicnt;
      usisrl = u.usisrl;
      usisrh = u.usisrh;
      latch = u.latch;
      enable = u.enable;
      phase = u.phase;
      seen = u.seen;
      scl = u.scl;
      sda = u.sda;
      stretch = stretch;
    }

-- The set-up fits I2C, and SPI (02: Ask 1).
abbrev pub fits : Usi → Bool
fits u = set_up.fits u.usictl0 u.usictl1 u.usickctl u.usicnt

abbrev pub fits_spi : Usi → Bool
fits_spi u = set_up.fits_spi u.usictl0 u.usictl1

-- Lines: SDA and SCL pulled low; both released while the set-up doesn't fit.
abbrev pub pulls_sda : Usi → Bool
pulls_sda u = rules.pulls_sda (fits u) u.enable u.latch

abbrev pub pulls_scl : Usi → Bool
pulls_scl u =
    fits u
    && (rules.drives u.usictl0 u.usictl1 u.phase || rules.holds u.usictl1 u.usicnt u.stretch)

abbrev pub lines : Usi → Lines
lines u = record { scl = pulls_scl u; sda = pulls_sda u }

-- SPI's lines: SCLK and SDO as they are driven; nothing is driven unless the set-up fits SPI.
abbrev pub released : SpiLines
released = record { sclk = Released; sdo = Released }

abbrev pub driven : Usi → SpiLines
driven u =
    record {
      sclk = spi.clock_line u.usictl0 u.usickctl u.phase;
      sdo = spi.data_line u.enable u.latch;
    }

unfoldable pub spi_lines : Usi → SpiLines
spi_lines u = cond (fits_spi u) (driven u) released
