-- The rules of SPI (02: Ask 1; docs/RULES.md), each on the register bytes and hidden bits that it speaks of.
-- A level is true when the line is high. The clock phase is true when idle.
use Rattle.std.specs.Prelude.{ℕ, ◌+◌, ◌*◌, ◌/◌, ◌%◌, Bool, cond, true, not, ◌&&◌, ◌||◌}
use Rattle.std.specs.Bool.{beq}
use Rattle.bits.specs.Positions.{on}
use Rattle.shift.specs.Shift as shift
use Rattle.usi_registers.specs.Registers.{USILSB, USIMST, USICKPH, USICKPL, USI16B}
use Rattle.usi_registers.specs.Rules.{counting, transparent}
use Rattle.usi_spi.specs.declared.Driven.{Driven}
use Rattle.usi_spi.specs.declared.Driven.TheVariants.{Released, Low, High}

-- The idle level of SCLK is CKPL.
abbrev pub idle : ℕ → Bool
idle usickctl = on usickctl USICKPL

-- Leading edge: SCLK leaves its idle level. Trailing edge: SCLK comes back to it.
abbrev pub leads : ℕ → Bool → Bool → Bool
leads usickctl before sclk = beq before (idle usickctl) && not (beq sclk (idle usickctl))

abbrev pub trails : ℕ → Bool → Bool → Bool
trails usickctl before sclk = not (beq before (idle usickctl)) && beq sclk (idle usickctl)

-- CKPH=0: changed on the leading edge, captured on the trailing one. CKPH=1: captured on the leading, changed on the
-- trailing.
unfoldable pub captures : ℕ → ℕ → Bool → Bool → Bool
captures usictl1 usickctl before sclk =
    cond (on usictl1 USICKPH) (leads usickctl before sclk) (trails usickctl before sclk)

unfoldable pub changes : ℕ → ℕ → Bool → Bool → Bool
changes usictl1 usickctl before sclk =
    cond (on usictl1 USICKPH) (trails usickctl before sclk) (leads usickctl before sclk)

-- The register is USISRL, with 16B=1 USISRH and USISRL.
abbrev pub wide : ℕ → Bool
wide usicnt = on usicnt USI16B

unfoldable pub register : ℕ → ℕ → ℕ → ℕ
register usicnt usisrl usisrh = cond (wide usicnt) (usisrl + 256 * usisrh) usisrl

-- It leaves by its highest bit, with LSB=1 by its lowest.
abbrev pub lowest_first : ℕ → Bool
lowest_first usictl0 = on usictl0 USILSB

abbrev pub outgoing : ℕ → ℕ → ℕ → Bool
outgoing usictl0 usicnt value = shift.outgoing (shift.top_of (wide usicnt)) (lowest_first usictl0) value

-- Capture: one shift, SDI enters.
abbrev pub shifted : ℕ → ℕ → Bool → ℕ → ℕ
shifted usictl0 usicnt sdi value = shift.shifted (shift.top_of (wide usicnt)) (lowest_first usictl0) sdi value

-- The register's two bytes; with 16B=0 USISRH stays.
abbrev pub low : ℕ → ℕ
low value = value % 256

unfoldable pub high : ℕ → ℕ → ℕ → ℕ
high usicnt usisrh value = cond (wide usicnt) (value / 256) usisrh

-- After each step the latch follows: GE=1; or CKPH=1, CNT>0 and SCLK last seen idle.
abbrev pub follows : ℕ → ℕ → ℕ → ℕ → Bool → Bool → Bool
follows usictl0 usictl1 usickctl usicnt seen sclk =
    transparent usictl0 || (on usictl1 USICKPH && counting usicnt && seen && beq sclk (idle usickctl))

-- Tick: a module that clocks toggles its phase, and waits for nothing; otherwise the phase becomes idle.
unfoldable pub phase_after : Bool → Bool → Bool
phase_after clocking phase = cond clocking (not phase) true

-- A line that is driven, by its level.
abbrev pub driven : Bool → Driven
driven level = cond level High Low

-- SCLK is driven with MST=1, at the idle level in the idle phase, else at its opposite.
abbrev pub clock_level : ℕ → Bool → Bool
clock_level usickctl phase = beq (idle usickctl) phase

unfoldable pub clock_line : ℕ → ℕ → Bool → Driven
clock_line usictl0 usickctl phase = cond (on usictl0 USIMST) (driven (clock_level usickctl phase)) Released

-- SDO is driven while the enable is 1, at the latch.
unfoldable pub data_line : Bool → Bool → Driven
data_line enable latch = cond enable (driven latch) Released
