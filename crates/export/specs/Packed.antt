-- A module as one 64-bit number, for callers that pass numbers only.
use Rattle.std.specs.Prelude.{ℕ, ◌+◌, ◌*◌, ◌/◌, ◌%◌, ◌^◌, ◌<◌, Result, Ok, Err}
use mir.Val.{bool_byte}
use Rattle.bits.specs.Positions.{is_set}
use Rattle.usi.specs.declared.Usi.{Usi}
use Rattle.laws.specs.declared.Refusal.{Refusal}
use Rattle.usi.specs.declared.Refused.{Refused}
use Rattle.usi.specs.declared.Written.{Written}
use Rattle.usi_spi.specs.declared.Driven.{Driven}
use Rattle.usi_spi.specs.declared.Driven.TheVariants.{Released, Low, High}
use Rattle.usi.specs.Module.{pulls_scl, pulls_sda, spi_lines}
use Rattle.usi.specs.Step.{refusal, module_of, cleared_by, read_refusal, value_of}

-- byte k of a number
abbrev pub byte_at : ℕ → ℕ → ℕ
byte_at k number = number / 256 ^ k % 256

-- bytes 0 to 5: the registers in the order of their addresses; bits 48 to 54: the hidden state
abbrev pub unpacked : ℕ → Usi
unpacked number =
    record {
      usictl0 = number % 256;
      usictl1 = byte_at 1 number;
      usickctl = byte_at 2 number;
      usicnt = byte_at 3 number;
      usisrl = byte_at 4 number;
      usisrh = byte_at 5 number;
      latch = is_set 48 number;
      enable = is_set 49 number;
      phase = is_set 50 number;
      seen = is_set 51 number;
      scl = is_set 52 number;
      sda = is_set 53 number;
      stretch = is_set 54 number;
    }

abbrev pub registers : Usi → ℕ
registers u =
    u.usictl0 + 256 * u.usictl1 + 256 ^ 2 * u.usickctl + 256 ^ 3 * u.usicnt + 256 ^ 4 * u.usisrl
    + 256 ^ 5 * u.usisrh

abbrev pub hidden : Usi → ℕ
hidden u =
    bool_byte u.latch + 2 * bool_byte u.enable + 4 * bool_byte u.phase + 8 * bool_byte u.seen
    + 16 * bool_byte u.scl + 32 * bool_byte u.sda + 64 * bool_byte u.stretch

abbrev pub packed : Usi → ℕ
packed u = registers u + 256 ^ 6 * hidden u

-- each register is a byte (proofs/Inverse.antt: such a module is its number unpacked)
pub record Bytes (u : Usi) : Type 0 where
  pub usictl0 : u.usictl0 < 256
  pub usictl1 : u.usictl1 < 256
  pub usickctl : u.usickctl < 256
  pub usicnt : u.usicnt < 256
  pub usisrl : u.usisrl < 256
  pub usisrh : u.usisrh < 256

-- a step's answer: the module in bits 0 to 54, and the refusal's number in bits 55 to 59
abbrev pub packed_step : Result Usi Refused → ℕ
packed_step s = packed (module_of s) + 2 ^ 55 * refusal s

-- the step that a write made
abbrev pub step_of : Result Written Refused → Result Usi Refused
step_of (Ok w) = Ok w.usi
step_of (Err r) = Err r

-- a write's answer: that of its step, and the flags that it cleared in bits 60 to 63, of a refused one none (02: Ask 12)
abbrev pub packed_written : Result Written Refused → ℕ
packed_written w = packed_step (step_of w) + 2 ^ 60 * cleared_by w

-- a read's answer: the value, and the refusal's number above 16 bits
abbrev pub packed_read : Result ℕ Refusal → ℕ
packed_read r = value_of r + 65536 * read_refusal r

-- the lines: 1 where SCL is pulled low, and 2 where SDA is
abbrev pub lines : Usi → ℕ
lines u = bool_byte (pulls_scl u) + 2 * bool_byte (pulls_sda u)

-- a line in SPI: 0 where it is released, 2 where it is driven low, 3 where it is driven high
abbrev pub line_number : Driven → ℕ
line_number Released = 0
line_number Low = 2
line_number High = 3

-- the lines in SPI: SCLK, and 4 times SDO
abbrev pub spi_number : Usi → ℕ
spi_number u = line_number (spi_lines u).sclk + 4 * line_number (spi_lines u).sdo
