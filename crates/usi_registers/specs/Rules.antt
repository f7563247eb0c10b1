-- The rules that look at the registers alone: fields by position, flags, the set-up, and a write to USICNT.
use Rattle.std.specs.Prelude.{ℕ, ◌+◌, Bool, cond, not, ◌&&◌}
use Rattle.std.specs.Int.Bits.{bit_and}
use Rattle.bits.specs.Positions.{on, off, raise, clear, field}
use Rattle.usi_registers.specs.Registers.{USIPE7, USIPE6, USIPE5, USILSB, USIGE, USIOE, USISWRST}
use Rattle.usi_registers.specs.Registers.{USICKPH, USII2C, USISTP, USIIFG, USIFLAGS}
use Rattle.usi_registers.specs.Registers.{USIDIV-position, USIDIV-width, USISSEL-position, USISSEL-width}
use Rattle.usi_registers.specs.Registers.{USICKPL, USI16B, USIIFGCC, USICNTx}

-- The fields of USICKCTL and USICNT that are numbers.
abbrev pub divider : ℕ → ℕ
divider usickctl = field USIDIV-position USIDIV-width usickctl

abbrev pub clock_source : ℕ → ℕ
clock_source usickctl = field USISSEL-position USISSEL-width usickctl

abbrev pub bit_count : ℕ → ℕ
bit_count usicnt = bit_and usicnt USICNTx

-- CNT above 0.
abbrev pub counting : ℕ → Bool
counting usicnt = not (off usicnt USICNTx)

-- OE and GE.
abbrev pub output_enable : ℕ → Bool
output_enable usictl0 = on usictl0 USIOE

abbrev pub transparent : ℕ → Bool
transparent usictl0 = on usictl0 USIGE

-- The set-up fits: I2C=1, CKPL=1, CKPH=0, LSB=0, 16B=0, PE6=PE7=1, SWRST=0.
abbrev pub fits : ℕ → ℕ → ℕ → ℕ → Bool
fits usictl0 usictl1 usickctl usicnt =
    on usictl1 USII2C && on usickctl USICKPL && off usictl1 USICKPH && off usictl0 USILSB && off usicnt USI16B
    && on usictl0 USIPE6 && on usictl0 USIPE7 && off usictl0 USISWRST

-- The set-up fits SPI (02: Ask 1): I2C=0, SWRST=0, PE5=PE6=PE7=1.
abbrev pub fits_spi : ℕ → ℕ → Bool
fits_spi usictl0 usictl1 =
    off usictl1 USII2C && off usictl0 USISWRST && on usictl0 USIPE5 && on usictl0 USIPE6 && on usictl0 USIPE7

-- Write to USICNT, its effect on USICTL1: CNT above 0 with IFGCC=0 clears IFG and STP; CNT=0 sets IFG; otherwise
-- flags stay.
unfoldable pub count_flags : ℕ → ℕ → ℕ
count_flags usictl1 value =
    cond (counting value)
    (cond (off value USIIFGCC) (clear usictl1 (USIIFG + USISTP)) usictl1)
    (raise usictl1 USIIFG)

-- The flags of USICTL1 (AL, STP, STTIFG, IFG, in their places) that were 1 before and are 0 after (02: Ask 12).
abbrev pub cleared : ℕ → ℕ → ℕ
cleared before after = clear (bit_and before USIFLAGS) after
